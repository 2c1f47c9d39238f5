use Rattle.std.proofs.Common.{length}
use Rattle.cad_lex.proofs.Turns.{Read}
use Rattle.cad_lex.proofs.lexer.lex.Given as goal

abbrev pub invariant-loop-rest : goal.invariant-loop-rest
invariant-loop-rest l = Read l.bytes l.tokens.items l.after_break l.rest

abbrev pub decreases-loop-rest : goal.decreases-loop-rest
decreases-loop-rest l = length l.rest
