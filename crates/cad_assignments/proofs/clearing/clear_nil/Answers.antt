use Rattle.cad_evaluation.specs.Changing.{empty_if_nil}
use Rattle.cad_outcomes.specs.Outcomes.{no_value}
use Rattle.cad_locations.specs.Views.{location_of}
use Rattle.cad_locations.proofs.Settled.{found_then, not_found}
use Rattle.cad_assignments.proofs.clearing.clear_nil.Goals as goal

pub returns-in-Ok : goal.returns-in-Ok
returns-in-Ok c =
    let x = location_of c.args.location.now in
    found_then no_value x (empty_if_nil x) c.args.state.now c.locate.new.state c.clear_nil_found.new.state c.clear_nil_found.result c.in-Ok.ensures c.clear_nil_found.ensures

pub returns-in-Err : goal.returns-in-Err
returns-in-Err c =
    let x = location_of c.args.location.now in
    not_found no_value x (empty_if_nil x) c.args.state.now c.locate.new.state c.locate.new.state c.in-Err.stop c.in-Err.ensures
