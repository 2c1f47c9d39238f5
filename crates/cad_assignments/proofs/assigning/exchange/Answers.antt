use Rattle.cad_labels.specs.Laws.{HasNone}
use Rattle.cad_labels.proofs.Places.{taken_keeps}
use Rattle.cad_rows.specs.Views.{pure_tree}
use Rattle.cad_state.proofs.Finding.{find_then, find_stopped}
use Rattle.cad_syntax.specs.Types.{pure_type}
use Rattle.cad_assignments.specs.Code.Changes.{taken_over, filled_for}
use Rattle.cad_locations.specs.Views.{location_of}
use Rattle.cad_assignments.proofs.assigning.exchange.Goals as goal

pub returns-in-Ok : goal.returns-in-Ok
returns-in-Ok c =
    let x = location_of c.args.location.now in
    let type = pure_type c.args.variable_type.now in
    find_then HasNone (taken_over x type) (taken_keeps x type) pure_tree pure_tree (filled_for x (pure_tree c.args.tree)) c.in-Ok.old c.args.state.now c.take_over.new.state c.fill_for.new.state c.fill_for.result c.in-Ok.ensures (λ _. c.fill_for.ensures)

pub returns-in-Err : goal.returns-in-Err
returns-in-Err c =
    let x = location_of c.args.location.now in
    find_stopped pure_tree pure_tree (taken_over x (pure_type c.args.variable_type.now)) (filled_for x (pure_tree c.args.tree)) c.args.state.now c.take_over.new.state c.take_over.new.state c.in-Err.stop c.in-Err.ensures
