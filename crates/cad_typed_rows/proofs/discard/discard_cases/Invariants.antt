use Rattle.std.proofs.Common.{vec_len}
use Rattle.cad_typed_rows.proofs.discard.discard_cases.Given as goal

abbrev pub decreases-loop-case : goal.decreases-loop-case
decreases-loop-case l = vec_len l.left
