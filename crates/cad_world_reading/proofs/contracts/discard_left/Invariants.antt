use Rattle.std.specs.Vec.Iter.{into_iter_len}
use Rattle.cad_world_reading.proofs.contracts.discard_left.Given as goal

abbrev pub decreases-loop-checked : goal.decreases-loop-checked
decreases-loop-checked l = into_iter_len l.left
