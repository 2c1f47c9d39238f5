use Rattle.std.specs.Vec.Iter.{into_iter_len}
use Rattle.cad_infer_containers.proofs.terms.discard_left.Given as goal

abbrev pub decreases-loop-x : goal.decreases-loop-x
decreases-loop-x l = into_iter_len l.left
