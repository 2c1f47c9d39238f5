use Rattle.cad_expression_leaves.proofs.Going.{goes_on, goes_stopped}
use Rattle.cad_expression_leaves.specs.Code.Steps.{content_in}
use Rattle.cad_expression_leaves.proofs.stands.content_at.Goals as goal

pub returns-in-Ok : goal.returns-in-Ok
unfolding content_in
returns-in-Ok c = goes_on _ _ _ _ _ _ _ _ _ c.in-Ok.is c.content_of.ensures

pub returns-in-Err : goal.returns-in-Err
returns-in-Err c = goes_stopped _ _ _ _ _ _ _ _ c.in-Err.is
