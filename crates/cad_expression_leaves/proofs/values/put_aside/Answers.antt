use Rattle.cad_expression_leaves.proofs.Boxing.{value_any}
use Rattle.cad_expression_leaves.proofs.Going.{goes_stopped}
use Rattle.cad_expression_leaves.specs.Code.Steps.{put_aside}
use Rattle.cad_expression_leaves.proofs.values.put_aside.Goals as goal

pub returns-in-Ok : goal.returns-in-Ok
unfolding put_aside
returns-in-Ok c = value_any _ _ _ _ _ _ _ _ _ c.in-Ok.is c.unboxed.ensures c.fill_variable.ensures

pub returns-in-Err : goal.returns-in-Err
returns-in-Err c = goes_stopped _ _ _ _ _ _ _ _ c.in-Err.is
