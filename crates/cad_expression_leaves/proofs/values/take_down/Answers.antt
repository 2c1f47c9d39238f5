use Rattle.cad_expression_leaves.proofs.Going.{goes_any, goes_stopped}
use Rattle.cad_expression_leaves.proofs.values.take_down.Goals as goal

pub returns-in-Ok : goal.returns-in-Ok
returns-in-Ok c = goes_any _ _ _ _ _ _ _ _ _ c.in-Ok.is c.end_behind.ensures

pub returns-in-Err : goal.returns-in-Err
returns-in-Err c = goes_stopped _ _ _ _ _ _ _ _ c.in-Err.is
