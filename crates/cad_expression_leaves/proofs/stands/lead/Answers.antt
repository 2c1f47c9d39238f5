use Rattle.std.proofs.Common.{ap, sym}
use Rattle.cad_world.specs.State.{ok}
use Rattle.cad_expression_leaves.proofs.Boxing.{value_given}
use Rattle.cad_expression_leaves.proofs.Going.{goes_stopped}
use Rattle.cad_expression_leaves.specs.Code.Steps.{led}
use Rattle.cad_expression_leaves.proofs.stands.lead.Goals as goal

pub returns-in-Ok : goal.returns-in-Ok
unfolding led
returns-in-Ok c y = value_given _ _ _ _ _ _ _ _ c.in-Ok.is c.unboxed.ensures (λ s. ap (λ p. ok p s) (sym c.led_by.ensures))

pub returns-in-Err : goal.returns-in-Err
returns-in-Err c y = goes_stopped _ _ _ _ _ _ _ _ c.in-Err.is
