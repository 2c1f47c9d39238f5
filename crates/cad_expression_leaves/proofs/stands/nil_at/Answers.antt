use Rattle.std.proofs.Common.{refl}
use Rattle.cad_expression_leaves.proofs.Boxing.{boxed_on}
use Rattle.cad_expression_leaves.proofs.Going.{goes_stopped}
use Rattle.cad_expression_leaves.specs.Code.Steps.{nil_told_of}
use Rattle.cad_expression_leaves.proofs.stands.nil_at.Goals as goal

pub returns-in-Ok : goal.returns-in-Ok
unfolding nil_told_of
returns-in-Ok c = boxed_on _ _ _ _ _ _ _ _ c.is_nil.result c.boxed.result c.in-Ok.is refl c.boxed.ensures c.is_nil.ensures

pub returns-in-Err : goal.returns-in-Err
returns-in-Err c = goes_stopped _ _ _ _ _ _ _ _ c.in-Err.is
