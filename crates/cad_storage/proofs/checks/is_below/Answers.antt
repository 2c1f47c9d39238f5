use Rattle.cad_state.specs.Views.{state_over}
use Rattle.cad_world.specs.State.{ok}
use Rattle.std.proofs.Common.{Bool, ap, sym}
use Rattle.cad_storage.proofs.checks.is_below.Goals as goal

pub returns-in-Ok : goal.returns-in-Ok
returns-in-Ok c = λ w. ap (λ (is : Bool). ok is (state_over w c.args.state.now)) (sym (c.in-Ok.ensures.told w))
