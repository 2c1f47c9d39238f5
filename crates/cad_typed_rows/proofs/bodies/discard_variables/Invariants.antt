use Rattle.std.proofs.Common.{vec_len}
use Rattle.cad_typed_rows.proofs.bodies.discard_variables.Given as goal

abbrev pub decreases-loop-x : goal.decreases-loop-x
decreases-loop-x l = vec_len l.left
