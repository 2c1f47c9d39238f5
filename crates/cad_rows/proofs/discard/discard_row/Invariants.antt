use Rattle.std.proofs.Common.{vec_len}
use Rattle.cad_rows.proofs.discard.discard_row.Given as goal

abbrev pub decreases-loop-place : goal.decreases-loop-place
decreases-loop-place l = vec_len l.left
