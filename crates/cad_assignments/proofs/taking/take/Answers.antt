use Rattle.cad_evaluation.specs.Changing.{take_slot}
use Rattle.cad_rows.specs.Views.{pure_tree}
use Rattle.cad_locations.specs.Views.{location_of}
use Rattle.cad_locations.proofs.Settled.{found_then, not_found}
use Rattle.cad_assignments.proofs.taking.take.Goals as goal

pub returns-in-Ok : goal.returns-in-Ok
returns-in-Ok c =
    let x = location_of c.args.location.now in
    found_then pure_tree x (take_slot x) c.args.state.now c.locate.new.state c.take_found.new.state c.take_found.result c.in-Ok.ensures c.take_found.ensures

pub returns-in-Err : goal.returns-in-Err
returns-in-Err c =
    let x = location_of c.args.location.now in
    not_found pure_tree x (take_slot x) c.args.state.now c.locate.new.state c.locate.new.state c.in-Err.stop c.in-Err.ensures
