use Rattle.cad_services.specs.Code.Services.{address_of}
use Rattle.cad_outcomes.proofs.Steps.{gives_here}
use Rattle.cad_receivers.proofs.Passing.{look_stops, looked}
use Rattle.cad_receivers.specs.Views.{settled_of, spot_of}
use Rattle.cad_syntax.specs.declared.address.Address.{Address}
use Rattle.cad_state.specs.Views.{state_over}
use Rattle.cad_services.proofs.accounts.address_of.Goals as goal

pub returns-in-Ok : goal.returns-in-Ok
returns-in-Ok c = looked (λ (a : Address). a) (settled_of c.args.receiver) (address_of c.args.part) c.in-Ok.spot c.args.state.now c.address_told.result c.in-Ok.ensures
    (λ w. gives_here (λ (a : Address). a) (address_of c.args.part (spot_of c.in-Ok.spot)) c.address_told.result (state_over w c.args.state.now) c.address_told.ensures)

pub returns-in-Err : goal.returns-in-Err
returns-in-Err c = look_stops (settled_of c.args.receiver) (address_of c.args.part) c.args.state.now c.in-Err.stop c.in-Err.ensures
