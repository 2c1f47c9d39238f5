use Rattle.cad_evaluation.specs.Changing.{take}
use Rattle.cad_labels.specs.Laws.{HasNone}
use Rattle.cad_labels.proofs.Places.{taking_keeps}
use Rattle.cad_rows.specs.Views.{pure_tree}
use Rattle.cad_state.proofs.Finding.{find_then, find_stopped, find_any}
use Rattle.cad_syntax.specs.Types.{pure_type}
use Rattle.cad_world.specs.Transfers.{transferred}
use Rattle.cad_locations.specs.Views.{location_of}
use Rattle.cad_assignments.proofs.assigning.take_over.Goals as goal

pub returns-in-Ok : goal.returns-in-Ok
returns-in-Ok c =
    let x = location_of c.args.location.now in
    let type = pure_type c.args.declared.now in
    find_then HasNone (take x) (taking_keeps x) pure_tree pure_tree (transferred type) c.in-Ok.tree c.args.state.now c.take.new.state c.transfer.new.self c.transfer.result c.in-Ok.ensures
    (λ _. find_any pure_tree (transferred type (pure_tree c.in-Ok.tree)) c.take.new.state c.transfer.new.self c.transfer.result c.transfer.ensures)

pub returns-in-Err : goal.returns-in-Err
returns-in-Err c =
    find_stopped pure_tree pure_tree (take (location_of c.args.location.now)) (transferred (pure_type c.args.declared.now)) c.args.state.now c.take.new.state c.take.new.state c.in-Err.stop c.in-Err.ensures
