use Rattle.std.proofs.Common.{option_map}
use Rattle.cad_evaluation.specs.Standing.{without}
use Rattle.cad_locations.specs.Views.{location_of, tree_seen}
use Rattle.cad_outcomes.proofs.Steps.{stops_on}
use Rattle.cad_selections.proofs.Passing.{leaves_then}
use Rattle.cad_selections.specs.Code.Arrivals.{arrival_of}
use Rattle.cad_state.specs.Views.{state_over}
use Rattle.cad_world.specs.Locations.{read}
use Rattle.cad_world.specs.Receivers.{receiver_with}
use Rattle.cad_selections.proofs.arrivals.arrival_at.Goals as goal

pub returns-in-Ok : goal.returns-in-Ok
returns-in-Ok c = λ rights w ready.
    let x = location_of c.args.location.now in
    let s = state_over w c.args.state.now in
    leaves_then (arrival_of rights x) (read x) (λ t. receiver_with rights x (without c.args.sees t)) (option_map tree_seen c.in-Ok.seen) s c.arrival_of_seen.result
    (c.in-Ok.ensures w ready) (c.arrival_of_seen.ensures rights x s)

pub returns-in-Err : goal.returns-in-Err
returns-in-Err c = λ rights w ready.
    let x = location_of c.args.location.now in
    stops_on (read x (state_over w c.args.state.now)) (λ t. receiver_with rights x (without c.args.sees t)) c.in-Err.stop (c.in-Err.ensures w ready)
