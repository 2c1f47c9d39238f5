use Rattle.cad_locations.specs.Views.{location_of}
use Rattle.cad_outcomes.proofs.Steps.{stops_on}
use Rattle.cad_state.specs.Views.{state_over}
use Rattle.cad_world.specs.Locations.{name}
use Rattle.cad_world.specs.Receivers.{standing}
use Rattle.cad_world.specs.State.{give}
use Rattle.cad_selections.proofs.arrivals.stand.Goals as goal

pub returns-in-Err : goal.returns-in-Err
returns-in-Err c = λ w ready. stops_on (name (location_of c.args.location.now) (state_over w c.args.state.now)) (λ l. give (standing c.args.rights l c.args.sees)) c.in-Err.stop (c.in-Err.ensures w ready)
