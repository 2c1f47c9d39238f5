use Rattle.std.proofs.Common.{vec_len}
use Rattle.cad_state.proofs.discard.discard_known.Given as goal

abbrev pub decreases-loop-one : goal.decreases-loop-one
decreases-loop-one l = vec_len l.left
