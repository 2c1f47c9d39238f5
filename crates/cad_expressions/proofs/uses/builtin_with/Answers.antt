use Rattle.std.proofs.Common.{refl}
use Rattle.cad_expression_leaves.proofs.Boxing.{boxed_any}
use Rattle.cad_expression_leaves.proofs.Going.{goes_stopped}
use Rattle.cad_expressions.proofs.uses.builtin_with.Goals as goal

pub returns-in-Ok : goal.returns-in-Ok
returns-in-Ok c = boxed_any _ _ _ _ _ _ _ _ c.call_builtin.result c.boxed.result c.in-Ok.is refl c.boxed.ensures c.call_builtin.ensures

pub returns-in-Err : goal.returns-in-Err
returns-in-Err c = goes_stopped _ _ _ _ _ _ _ _ c.in-Err.is
