use Rattle.std.proofs.Common.{◌≡◌, length}
use Rattle.cad_grammar.specs.Lexes.{is_in_line}
use Rattle.cad_lex.specs.Code.Reading.{behind}
use Rattle.cad_lex.proofs.gap.behind_line.Given as goal

abbrev pub invariant-loop-bytes : goal.invariant-loop-bytes
invariant-loop-bytes l = behind is_in_line l.bytes ≡ behind is_in_line l.fn.bytes

abbrev pub decreases-loop-bytes : goal.decreases-loop-bytes
decreases-loop-bytes l = length l.bytes
