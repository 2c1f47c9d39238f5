use Rattle.cad_expression_leaves.proofs.Going.{goes_on, goes_stopped}
use Rattle.cad_expression_leaves.specs.Code.Steps.{chosen}
use Rattle.std.proofs.Common.{◌∙◌, ap, Ok}
use Rattle.cad_expressions.proofs.operands.choose_branch.Goals as goal

pub returns-in-Ok-true : goal.returns-in-Ok-true
unfolding chosen
returns-in-Ok-true g c = goes_on _ _ _ _ _ _ _ _ _ (c.in-Ok-true.is ∙ ap Ok c.in-Ok-true.field-0-test) c.value.ensures

pub returns-in-Ok-false : goal.returns-in-Ok-false
unfolding chosen
returns-in-Ok-false g c = goes_on _ _ _ _ _ _ _ _ _ (c.in-Ok-false.is ∙ ap Ok c.in-Ok-false.field-0-test) c.value-in-Ok-false.ensures

pub returns-in-Err : goal.returns-in-Err
returns-in-Err g c = goes_stopped _ _ _ _ _ _ _ _ c.in-Err.is
