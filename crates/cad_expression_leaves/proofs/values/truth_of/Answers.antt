use Rattle.cad_expression_leaves.proofs.Boxing.{value_given}
use Rattle.cad_expression_leaves.proofs.Going.{goes_stopped}
use Rattle.cad_expression_leaves.specs.Code.Steps.{truth_told}
use Rattle.std.proofs.Common.{ap, sym, ◌∙◌}
use Rattle.cad_world.specs.State.{give, with_some}
use Rattle.cad_expression_leaves.proofs.values.truth_of.Goals as goal

pub returns-in-Some : goal.returns-in-Some
unfolding truth_told
returns-in-Some c y = value_given _ _ _ _ _ _ _ _ c.in-Ok.is c.unboxed-tree.ensures (λ s. ap (λ o. with_some o give s) (sym c.truth_in-truth.ensures ∙ c.in-Some.is))

pub returns-in-None : goal.returns-in-None
unfolding truth_told
returns-in-None c y = value_given _ _ _ _ _ _ _ _ c.in-Ok.is c.unboxed-tree.ensures (λ s. ap (λ o. with_some o give s) (sym c.truth_in-truth.ensures ∙ c.in-None.is))

pub returns-in-Err : goal.returns-in-Err
returns-in-Err c y = goes_stopped _ _ _ _ _ _ _ _ c.in-Err.is
