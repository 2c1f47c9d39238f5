use Rattle.std.proofs.Common.{ap, sym}
use Rattle.cad_world.specs.State.{State, ok}
use Rattle.cad_casts.proofs.own_types.know_controller.Goals as goal

pub returns-in-Ok : goal.returns-in-Ok
returns-in-Ok c = λ w. ap (λ (s : State). ok tt s) (sym (c.know.ensures.same w))
