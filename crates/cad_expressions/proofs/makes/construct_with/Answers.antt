use Rattle.cad_expression_leaves.proofs.Going.{goes_with, goes_stopped}
use Rattle.cad_expressions.proofs.makes.construct_with.Goals as goal

pub returns-in-Ok : goal.returns-in-Ok
returns-in-Ok g c = goes_with _ _ _ _ _ _ _ _ _ c.in-Ok.is (λ h. c.construct.ensures h)

pub returns-in-Err : goal.returns-in-Err
returns-in-Err g c = goes_stopped _ _ _ _ _ _ _ _ c.in-Err.is
