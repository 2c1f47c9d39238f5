use Rattle.std.proofs.Common.{◌≡◌, length}
use Rattle.cad_grammar.specs.Lexes.{is_hexadecimal}
use Rattle.cad_lex.specs.Code.Reading.{behind}
use Rattle.cad_lex.proofs.quotation.behind_hexadecimal.Given as goal

abbrev pub invariant-loop-bytes : goal.invariant-loop-bytes
invariant-loop-bytes l = behind is_hexadecimal l.bytes ≡ behind is_hexadecimal l.fn.bytes

abbrev pub decreases-loop-bytes : goal.decreases-loop-bytes
decreases-loop-bytes l = length l.bytes
