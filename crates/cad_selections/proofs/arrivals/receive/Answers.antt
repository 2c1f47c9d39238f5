use Rattle.cad_evaluation.specs.Standing.{without}
use Rattle.cad_locations.specs.Views.{location_of}
use Rattle.cad_outcomes.proofs.Steps.{stops_on}
use Rattle.cad_receivers.proofs.Passing.{after_ready, stops_before}
use Rattle.cad_selections.proofs.Settling.{settled_same}
use Rattle.cad_receivers.specs.Views.{receiver_of}
use Rattle.cad_selections.specs.Views.{received}
use Rattle.cad_state.specs.Views.{state_over}
use Rattle.cad_world.specs.Locations.{read, read_slot, slot_of}
use Rattle.cad_world.specs.Receivers.{receiver_with}
use Rattle.cad_selections.proofs.arrivals.receive.Goals as goal

pub returns-in-Ok : goal.returns-in-Ok
returns-in-Ok c =
    let x = location_of c.args.location.now in
    after_ready receiver_of (received c.args.rights x c.args.sees) c.args.state.now c.settle.new.state c.receive_settled.new.state c.receive_settled.result
    (settled_same x c.args.state.now c.settle.new.state c.in-Ok.ensures) c.receive_settled.ensures

pub returns-in-Err : goal.returns-in-Err
returns-in-Err c = λ w ready.
    let x = location_of c.args.location.now in
    let s = state_over w c.args.state.now in
    stops_on (read x s) (λ t. receiver_with c.args.rights x (without c.args.sees t)) c.in-Err.stop
    (stops_before (slot_of x s) (λ o. read_slot x o) c.in-Err.stop (c.in-Err.ensures w ready))
