use Rattle.cad_labels.specs.Laws.{HasNone}
use Rattle.cad_labels.proofs.Places.{taken_keeps}
use Rattle.cad_outcomes.specs.Outcomes.{no_value}
use Rattle.cad_rows.specs.Views.{pure_tree}
use Rattle.cad_state.proofs.Finding.{find_then, find_stopped}
use Rattle.cad_syntax.specs.Types.{pure_type}
use Rattle.cad_assignments.specs.Code.Changes.{taken_over, second_swapped}
use Rattle.cad_locations.specs.Views.{location_of}
use Rattle.cad_assignments.proofs.swapping.swap_both.Goals as goal

pub returns-in-Ok : goal.returns-in-Ok
returns-in-Ok c =
    let x = location_of c.args.first.now in
    let y = location_of c.args.second.now in
    let xtype = pure_type c.args.first_type.now in
    let ytype = pure_type c.args.second_type.now in
    find_then HasNone (taken_over x ytype) (taken_keeps x ytype) pure_tree no_value (λ a. second_swapped x xtype y a) c.in-Ok.tree c.args.state.now c.take_over.new.state c.swap_second.new.state c.swap_second.result c.in-Ok.ensures (λ _. c.swap_second.ensures)

pub returns-in-Err : goal.returns-in-Err
returns-in-Err c =
    let x = location_of c.args.first.now in
    let y = location_of c.args.second.now in
    find_stopped pure_tree no_value (taken_over x (pure_type c.args.second_type.now)) (λ a. second_swapped x (pure_type c.args.first_type.now) y a) c.args.state.now c.take_over.new.state c.take_over.new.state c.in-Err.stop c.in-Err.ensures
