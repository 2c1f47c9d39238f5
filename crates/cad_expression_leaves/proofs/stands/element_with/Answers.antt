use Rattle.cad_expression_leaves.proofs.Boxing.{value_on}
use Rattle.cad_expression_leaves.proofs.Going.{goes_stopped}
use Rattle.cad_expression_leaves.specs.Code.Steps.{element_with}
use Rattle.cad_expression_leaves.proofs.stands.element_with.Goals as goal

pub returns-in-Ok : goal.returns-in-Ok
unfolding element_with
returns-in-Ok c = value_on _ _ _ _ _ _ _ _ _ c.in-Ok.is c.unboxed-tree.ensures c.element_of-found.ensures

pub returns-in-Err : goal.returns-in-Err
returns-in-Err c = goes_stopped _ _ _ _ _ _ _ _ c.in-Err.is
