use Rattle.std.proofs.Common.{refl}
use Rattle.cad_expression_leaves.proofs.Boxing.{boxed_given}
use Rattle.cad_expression_leaves.proofs.Going.{goes_stopped}
use Rattle.cad_expression_leaves.proofs.values.array_with.Goals as goal

pub returns-in-Ok : goal.returns-in-Ok
returns-in-Ok c y = boxed_given _ _ _ _ _ _ _ c.array_of.result c.boxed.result c.in-Ok.is refl c.boxed.ensures c.array_of.ensures

pub returns-in-Err : goal.returns-in-Err
returns-in-Err c y = goes_stopped _ _ _ _ _ _ _ _ c.in-Err.is
