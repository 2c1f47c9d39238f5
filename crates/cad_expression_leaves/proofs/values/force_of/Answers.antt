use Rattle.std.proofs.Common.{ap}
use Rattle.cad_rows.specs.Views.{pure_tree}
use Rattle.cad_expression_leaves.proofs.Boxing.{boxed_given}
use Rattle.cad_expression_leaves.proofs.Going.{goes_stopped}
use Rattle.cad_expression_leaves.proofs.values.force_of.Goals as goal

pub returns-in-Ok : goal.returns-in-Ok
returns-in-Ok c y = boxed_given _ _ _ _ _ _ _ c.force.result c.boxed.result c.in-Ok.is (ap pure_tree c.unboxed.ensures) c.boxed.ensures c.force.ensures

pub returns-in-Err : goal.returns-in-Err
returns-in-Err c y = goes_stopped _ _ _ _ _ _ _ _ c.in-Err.is
