use Rattle.cad_locations.specs.Views.{location_of}
use Rattle.cad_selections.specs.Code.Arrivals.{arrival_of}
use Rattle.cad_receivers.specs.Views.{receiver_of}
use Rattle.cad_selections.specs.Views.{received}
use Rattle.cad_state.proofs.Finding.{find_same}
use Rattle.cad_selections.proofs.arrivals.receive_settled.Goals as goal

pub returns-in-Ok : goal.returns-in-Ok
returns-in-Ok c =
    let x = location_of c.args.location.now in
    find_same receiver_of (received c.args.rights x c.args.sees) (arrival_of c.args.rights x c.in-Ok.arrival) c.args.state.now c.arrive.new.state c.arrive.result (c.in-Ok.ensures c.args.rights) c.arrive.ensures
