use Rattle.cad_labels.specs.Laws.{AnyOne}
use Rattle.cad_state.proofs.Finding.{find_then, find_stopped}
use Rattle.cad_outcomes.specs.Outcomes.{no_value}
use Rattle.cad_rows.specs.Views.{pure_tree}
use Rattle.cad_values.specs.Values.{pure_value}
use Rattle.cad_assignments.specs.Code.Fills.{asked, placed}
use Rattle.cad_assignments.specs.declared.asking.Inner.TheVariants.{Values}
use Rattle.cad_assignments.proofs.Asked.{asked_keeps}
use Rattle.cad_assignments.proofs.entering.set_value.Goals as goal

pub returns-in-Ok : goal.returns-in-Ok
returns-in-Ok c =
    let t = pure_tree c.args.tree in
    find_then AnyOne (asked Values c.args.label t) (asked_keeps Values c.args.label t) no_value no_value (λ _. placed c.args.label (pure_value c.args.key.now) t) tt
    c.args.state.now c.ask.new.state c.place_value.new.state c.place_value.result c.in-Ok.ensures (λ _. c.place_value.ensures)

pub returns-in-Err : goal.returns-in-Err
returns-in-Err c =
    let t = pure_tree c.args.tree in
    find_stopped no_value no_value (asked Values c.args.label t) (λ _. placed c.args.label (pure_value c.args.key.now) t) c.args.state.now c.ask.new.state c.ask.new.state c.in-Err.stop c.in-Err.ensures
