use Rattle.std.proofs.Common.{vec_len}
use Rattle.cad_typed_rows.proofs.discard.discard_blocks.Given as goal

abbrev pub decreases-loop-block : goal.decreases-loop-block
decreases-loop-block l = vec_len l.left
