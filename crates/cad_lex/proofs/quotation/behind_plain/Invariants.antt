use Rattle.std.proofs.Common.{◌≡◌, length}
use Rattle.cad_grammar.specs.Lexes.{is_plain}
use Rattle.cad_lex.specs.Code.Reading.{behind}
use Rattle.cad_lex.proofs.quotation.behind_plain.Given as goal

abbrev pub invariant-loop-bytes : goal.invariant-loop-bytes
invariant-loop-bytes l = behind is_plain l.bytes ≡ behind is_plain l.fn.bytes

abbrev pub decreases-loop-bytes : goal.decreases-loop-bytes
decreases-loop-bytes l = length l.bytes
