use Rattle.std.proofs.Common.{ap, refl}
use Rattle.cad_rows.specs.Views.{pure_tree}
use Rattle.cad_expression_leaves.proofs.Boxing.{boxed_given}
use Rattle.cad_expression_leaves.proofs.Going.{goes_given, goes_stopped}
use Rattle.cad_expression_leaves.specs.Code.Steps.{wrapped_by}
use Rattle.cad_expression_leaves.proofs.values.wrap_if.Goals as goal

pub returns-then-wraps : goal.returns-then-wraps
unfolding wrapped_by
returns-then-wraps c y = boxed_given _ _ _ _ _ _ _ c.wrap.result c.boxed.result c.in-Ok.is (ap pure_tree c.unboxed.ensures) c.boxed.ensures (rw (c.if-wraps.true) c.wrap.ensures)

pub returns-else-wraps : goal.returns-else-wraps
unfolding wrapped_by
returns-else-wraps c y = goes_given _ _ _ _ _ _ _ _ c.in-Ok.is (rw (c.if-wraps.false) (λ s. refl))

pub returns-in-Err : goal.returns-in-Err
returns-in-Err c y = goes_stopped _ _ _ _ _ _ _ _ c.in-Err.is
