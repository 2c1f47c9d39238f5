use Rattle.cad_labels.specs.Laws.{AnyOne}
use Rattle.cad_state.proofs.Finding.{find_then, find_stopped}
use Rattle.cad_outcomes.specs.Outcomes.{no_value}
use Rattle.cad_rows.specs.Views.{pure_tree}
use Rattle.cad_values.specs.Values.{pure_value}
use Rattle.cad_assignments.specs.Code.Fills.{has_room, key_added}
use Rattle.cad_assignments.proofs.Fills.{room_keeps}
use Rattle.cad_assignments.proofs.entering.add_entry.Goals as goal

pub returns-in-Ok : goal.returns-in-Ok
returns-in-Ok c =
    find_then AnyOne (has_room c.args.label) (room_keeps c.args.label) no_value no_value (λ _. key_added c.args.label (pure_value c.args.key.now) (pure_tree c.args.tree)) tt
    c.args.state.now c.args.state.now c.add_copy.new.state c.add_copy.result c.in-Ok.ensures (λ _. c.add_copy.ensures)

pub returns-in-Err : goal.returns-in-Err
returns-in-Err c =
    find_stopped no_value no_value (has_room c.args.label) (λ _. key_added c.args.label (pure_value c.args.key.now) (pure_tree c.args.tree)) c.args.state.now c.args.state.now c.args.state.now c.in-Err.stop c.in-Err.ensures
