use Rattle.cad_expression_leaves.proofs.Going.{goes_on, goes_stopped}
use Rattle.cad_expression_leaves.specs.Code.Steps.{field_at}
use Rattle.cad_expression_leaves.proofs.stands.field_at.Goals as goal

pub returns-in-Ok : goal.returns-in-Ok
unfolding field_at
returns-in-Ok c = goes_on _ _ _ _ _ _ _ _ _ c.in-Ok.is c.field_of.ensures

pub returns-in-Err : goal.returns-in-Err
returns-in-Err c = goes_stopped _ _ _ _ _ _ _ _ c.in-Err.is
