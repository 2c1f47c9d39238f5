use Rattle.cad_labels.specs.Laws.{HasNone}
use Rattle.cad_labels.proofs.Places.{taken_keeps}
use Rattle.cad_outcomes.specs.Outcomes.{no_value}
use Rattle.cad_rows.specs.Views.{pure_tree}
use Rattle.cad_state.proofs.Finding.{find_then, find_stopped}
use Rattle.cad_syntax.specs.Types.{pure_type}
use Rattle.cad_assignments.specs.Code.Changes.{taken_over, both_filled}
use Rattle.cad_locations.specs.Views.{location_of}
use Rattle.cad_assignments.proofs.swapping.swap_second.Goals as goal

pub returns-in-Ok : goal.returns-in-Ok
returns-in-Ok c =
    let x = location_of c.args.first.now in
    let y = location_of c.args.second.now in
    let xtype = pure_type c.args.first_type.now in
    find_then HasNone (taken_over y xtype) (taken_keeps y xtype) pure_tree no_value (λ b. both_filled x y b (pure_tree c.args.tree)) c.in-Ok.other c.args.state.now c.take_over.new.state c.fill_both.new.state c.fill_both.result c.in-Ok.ensures (λ none. c.fill_both.ensures none)

pub returns-in-Err : goal.returns-in-Err
returns-in-Err c =
    let x = location_of c.args.first.now in
    let y = location_of c.args.second.now in
    find_stopped pure_tree no_value (taken_over y (pure_type c.args.first_type.now)) (λ b. both_filled x y b (pure_tree c.args.tree)) c.args.state.now c.take_over.new.state c.take_over.new.state c.in-Err.stop c.in-Err.ensures
