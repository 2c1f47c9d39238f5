use Rattle.std.proofs.Common.{vec_len}
use Rattle.cad_loading.proofs.held.discard_all_held.Given as goal

abbrev pub decreases-loop-held : goal.decreases-loop-held
decreases-loop-held l = vec_len l.left
