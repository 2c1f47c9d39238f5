use Rattle.cad_evaluation.specs.Changing.{fill}
use Rattle.cad_labels.specs.Laws.{AnyOne}
use Rattle.cad_state.proofs.Finding.{find_then, find_stopped}
use Rattle.cad_outcomes.specs.Outcomes.{no_value}
use Rattle.cad_rows.specs.Views.{pure_tree}
use Rattle.cad_assignments.specs.Code.Changes.{nil_cleared}
use Rattle.cad_locations.specs.Views.{location_of}
use Rattle.cad_assignments.proofs.Changes.{nil_keeps}
use Rattle.cad_assignments.proofs.assigning.force_assign.Goals as goal

pub returns-in-Ok : goal.returns-in-Ok
returns-in-Ok c =
    let x = location_of c.args.location.now in
    find_then AnyOne (nil_cleared x) (nil_keeps x) no_value no_value (λ _. fill x (pure_tree c.args.tree)) tt c.args.state.now c.clear_nil.new.state c.fill.new.state c.fill.result c.in-Ok.ensures (λ _. c.fill.ensures)

pub returns-in-Err : goal.returns-in-Err
returns-in-Err c =
    let x = location_of c.args.location.now in
    find_stopped no_value no_value (nil_cleared x) (λ _. fill x (pure_tree c.args.tree)) c.args.state.now c.clear_nil.new.state c.clear_nil.new.state c.in-Err.stop c.in-Err.ensures
