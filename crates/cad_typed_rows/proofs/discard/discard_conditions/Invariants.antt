use Rattle.std.proofs.Common.{vec_len}
use Rattle.cad_typed_rows.proofs.discard.discard_conditions.Given as goal

abbrev pub decreases-loop-condition : goal.decreases-loop-condition
decreases-loop-condition l = vec_len l.left
