use Rattle.std.proofs.Common.{◌≡◌, length}
use Rattle.cad_syntax.specs.Names.{is_part_of_name}
use Rattle.cad_lex.specs.Code.Reading.{behind}
use Rattle.cad_lex.proofs.word.behind_word.Given as goal

abbrev pub invariant-loop-bytes : goal.invariant-loop-bytes
invariant-loop-bytes l = behind is_part_of_name l.bytes ≡ behind is_part_of_name l.fn.bytes

abbrev pub decreases-loop-bytes : goal.decreases-loop-bytes
decreases-loop-bytes l = length l.bytes
