use Rattle.std.proofs.Common.{vec_len}
use Rattle.cad_typed_rows.proofs.discard.discard_befores.Given as goal

abbrev pub decreases-loop-before : goal.decreases-loop-before
decreases-loop-before l = vec_len l.left
