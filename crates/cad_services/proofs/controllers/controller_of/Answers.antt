use Rattle.cad_capabilities.specs.Views.{id_of}
use Rattle.cad_services.specs.Code.Services.{controller_of}
use Rattle.cad_outcomes.proofs.Steps.{gives_here}
use Rattle.cad_receivers.proofs.Passing.{look_stops, looked}
use Rattle.cad_receivers.specs.Views.{settled_of, spot_of}
use Rattle.cad_state.specs.Views.{state_over}
use Rattle.cad_services.proofs.controllers.controller_of.Goals as goal

pub returns-in-Ok : goal.returns-in-Ok
returns-in-Ok c = looked id_of (settled_of c.args.receiver) (controller_of) c.in-Ok.spot c.args.state.now c.controller_told.result c.in-Ok.ensures
    (λ w. gives_here id_of (controller_of (spot_of c.in-Ok.spot)) c.controller_told.result (state_over w c.args.state.now) c.controller_told.ensures)

pub returns-in-Err : goal.returns-in-Err
returns-in-Err c = look_stops (settled_of c.args.receiver) (controller_of) c.args.state.now c.in-Err.stop c.in-Err.ensures
