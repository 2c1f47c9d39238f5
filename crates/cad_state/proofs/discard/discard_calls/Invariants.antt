use Rattle.std.proofs.Common.{vec_len}
use Rattle.cad_state.proofs.discard.discard_calls.Given as goal

abbrev pub decreases-loop-call : goal.decreases-loop-call
decreases-loop-call l = vec_len l.left
