use Rattle.std.proofs.Common.{ℕ, ap, Some}
use Rattle.cad_outcomes.proofs.Steps.{stops_on}
use Rattle.cad_state.specs.Views.{state_over}
use Rattle.cad_world.specs.Locations.{name, stored}
use Rattle.cad_world.specs.Receivers.{standing}
use Rattle.cad_world.specs.State.{bind, give}
use Rattle.cad_receivers.proofs.stored.stand_stored.Goals as goal

pub returns-in-Ok : goal.returns-in-Ok
returns-in-Ok c = λ w ready. ap (λ o. bind o (λ (l : ℕ). give (standing (Some c.args.reference.now.authorization) l c.args.sees))) (c.in-Ok.ensures w)

pub returns-in-Err : goal.returns-in-Err
returns-in-Err c = λ w ready.
    stops_on (name (stored c.args.address.0 c.args.path.now) (state_over w c.args.state.now)) (λ l. give (standing (Some c.args.reference.now.authorization) l c.args.sees)) c.in-Err.stop (c.in-Err.ensures w)
