use Rattle.cad_evaluation.specs.Changing.{cleared}
use Rattle.cad_outcomes.specs.Outcomes.{no_value}
use Rattle.cad_locations.specs.Views.{location_of}
use Rattle.cad_locations.proofs.Settled.{found_then, not_found}
use Rattle.cad_assignments.proofs.clearing.clear_old.Goals as goal

pub returns-in-Ok : goal.returns-in-Ok
returns-in-Ok c =
    let x = location_of c.args.location.now in
    found_then no_value x (cleared x) c.args.state.now c.locate.new.state c.clear_old_found.new.state c.clear_old_found.result c.in-Ok.ensures c.clear_old_found.ensures

pub returns-in-Err : goal.returns-in-Err
returns-in-Err c =
    let x = location_of c.args.location.now in
    not_found no_value x (cleared x) c.args.state.now c.locate.new.state c.locate.new.state c.in-Err.stop c.in-Err.ensures
