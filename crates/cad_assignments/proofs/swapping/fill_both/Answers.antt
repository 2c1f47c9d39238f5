use Rattle.cad_evaluation.specs.Changing.{fill}
use Rattle.cad_labels.specs.Laws.{AnyOne}
use Rattle.cad_outcomes.specs.Outcomes.{no_value}
use Rattle.cad_rows.specs.Views.{pure_tree}
use Rattle.cad_state.proofs.Finding.{find_then, find_stopped}
use Rattle.cad_assignments.specs.Code.Changes.{first_filled}
use Rattle.cad_locations.specs.Views.{location_of}
use Rattle.cad_assignments.proofs.Swaps.{first_keeps}
use Rattle.cad_assignments.proofs.swapping.fill_both.Goals as goal

pub returns-in-Ok : goal.returns-in-Ok
returns-in-Ok c = λ none.
    let x = location_of c.args.first.now in
    let y = location_of c.args.second.now in
    let b = pure_tree c.args.tree in
    find_then AnyOne (first_filled x y b) (first_keeps x y b none) no_value no_value (λ _. fill y (pure_tree c.args.other)) tt c.args.state.now c.fill_first.new.state c.fill.new.state c.fill.result c.in-Ok.ensures (λ _. c.fill.ensures)

pub returns-in-Err : goal.returns-in-Err
returns-in-Err c = λ none.
    let x = location_of c.args.first.now in
    let y = location_of c.args.second.now in
    find_stopped no_value no_value (first_filled x y (pure_tree c.args.tree)) (λ _. fill y (pure_tree c.args.other)) c.args.state.now c.fill_first.new.state c.fill_first.new.state c.in-Err.stop c.in-Err.ensures
