use Rattle.std.proofs.Common.{length}
use Rattle.cad_shapes.proofs.well_formed.+is_last.Given as goal

abbrev pub decreases-is_last : goal.decreases-is_last
decreases-is_last l = length l.names.now
