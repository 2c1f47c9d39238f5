use Rattle.std.specs.Vec.Iter.{into_iter_len}
use Rattle.cad_infer_containers.proofs.terms.discard_left_pairs.Given as goal

abbrev pub decreases-loop-pair : goal.decreases-loop-pair
decreases-loop-pair l = into_iter_len l.left
