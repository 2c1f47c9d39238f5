use Rattle.cad_labels.specs.Laws.{AnyOne}
use Rattle.cad_state.proofs.Finding.{find_then, find_stopped}
use Rattle.cad_outcomes.specs.Outcomes.{no_value}
use Rattle.cad_rows.specs.Views.{pure_tree}
use Rattle.cad_values.specs.Values.{pure_value}
use Rattle.cad_world.specs.Trees.{tree_of}
use Rattle.cad_assignments.specs.Code.Fills.{asked, value_set}
use Rattle.cad_assignments.specs.declared.asking.Inner.TheVariants.{Keys}
use Rattle.cad_assignments.proofs.Asked.{asked_keeps}
use Rattle.cad_assignments.proofs.entering.set_entry.Goals as goal

pub returns-in-Ok : goal.returns-in-Ok
returns-in-Ok c =
    let k = pure_value c.args.key.now in
    find_then AnyOne (asked Keys c.args.label (tree_of k)) (asked_keeps Keys c.args.label (tree_of k)) no_value no_value (λ _. value_set c.args.label k (pure_tree c.args.tree)) tt
    c.args.state.now c.ask_key.new.state c.set_value.new.state c.set_value.result c.in-Ok.ensures (λ _. c.set_value.ensures)

pub returns-in-Err : goal.returns-in-Err
returns-in-Err c =
    let k = pure_value c.args.key.now in
    find_stopped no_value no_value (asked Keys c.args.label (tree_of k)) (λ _. value_set c.args.label k (pure_tree c.args.tree)) c.args.state.now c.ask_key.new.state c.ask_key.new.state c.in-Err.stop c.in-Err.ensures
