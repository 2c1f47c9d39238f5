use Rattle.cad_expression_leaves.proofs.Boxing.{value_any}
use Rattle.cad_expression_leaves.proofs.Going.{goes_stopped}
use Rattle.cad_expression_leaves.proofs.growth.push_value.Goals as goal

pub returns-in-Ok : goal.returns-in-Ok
returns-in-Ok c = value_any _ _ _ _ _ _ _ _ _ c.in-Ok.is c.unboxed.ensures c.push_own.ensures

pub returns-in-Err : goal.returns-in-Err
returns-in-Err c = goes_stopped _ _ _ _ _ _ _ _ c.in-Err.is
