use Rattle.std.proofs.Common.{Option}
use Rattle.cad_outcomes.specs.Outcomes.{no_value}
use Rattle.cad_state.proofs.Finding.{find_stopped}
use Rattle.cad_world.specs.Locations.{read as what_stands, read_slot}
use Rattle.cad_world.specs.Rows.{Tree}
use Rattle.cad_world.specs.State.{done}
use Rattle.cad_assignments.specs.Code.Changes.{read_only as only_read}
use Rattle.cad_locations.specs.Views.{location_of}
use Rattle.cad_locations.proofs.Settled.{behind_node, not_found}
use Rattle.cad_assignments.proofs.swapping.read_only.Goals as goal

pub returns-in-Ok : goal.returns-in-Ok
returns-in-Ok c =
    let x = location_of c.args.location.now in
    behind_node no_value x (only_read x) c.args.state.now c.locate.new.state c.locate.new.state c.read_found.result c.in-Ok.ensures c.read_found.ensures

pub returns-in-Err : goal.returns-in-Err
returns-in-Err c =
    let x = location_of c.args.location.now in
    find_stopped {B = Option Tree} (λ o. o) no_value (what_stands x) (λ _. done) c.args.state.now c.locate.new.state c.locate.new.state c.in-Err.stop
    (not_found {B = Option Tree} (λ o. o) x (read_slot x) c.args.state.now c.locate.new.state c.locate.new.state c.in-Err.stop c.in-Err.ensures)
