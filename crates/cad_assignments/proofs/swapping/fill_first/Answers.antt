use Rattle.cad_evaluation.specs.Changing.{fill}
use Rattle.cad_labels.specs.Laws.{AnyOne}
use Rattle.cad_outcomes.specs.Outcomes.{no_value}
use Rattle.cad_rows.specs.Views.{pure_tree}
use Rattle.cad_state.proofs.Finding.{find_then, find_stopped}
use Rattle.cad_assignments.specs.Code.Changes.{both_there}
use Rattle.cad_locations.specs.Views.{location_of}
use Rattle.cad_assignments.proofs.Swaps.{both_keeps}
use Rattle.cad_assignments.proofs.swapping.fill_first.Goals as goal

pub returns-in-Ok : goal.returns-in-Ok
returns-in-Ok c =
    let x = location_of c.args.first.now in
    let y = location_of c.args.second.now in
    find_then AnyOne (both_there x y) (both_keeps x y) no_value no_value (λ _. fill x (pure_tree c.args.tree)) tt c.args.state.now c.both_there.new.state c.fill.new.state c.fill.result c.in-Ok.ensures (λ _. c.fill.ensures)

pub returns-in-Err : goal.returns-in-Err
returns-in-Err c =
    let x = location_of c.args.first.now in
    let y = location_of c.args.second.now in
    find_stopped no_value no_value (both_there x y) (λ _. fill x (pure_tree c.args.tree)) c.args.state.now c.both_there.new.state c.both_there.new.state c.in-Err.stop c.in-Err.ensures
