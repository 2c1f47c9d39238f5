use Rattle.cad_evaluation.specs.Changing.{fill_entry as filled}
use Rattle.cad_outcomes.specs.Outcomes.{no_value}
use Rattle.cad_rows.specs.Views.{pure_tree}
use Rattle.cad_values.specs.Values.{pure_value}
use Rattle.cad_assignments.proofs.Fills.{label_then, label_gone}
use Rattle.cad_assignments.proofs.entering.fill_entry.Goals as goal

pub returns-in-Ok : goal.returns-in-Ok
returns-in-Ok c =
    label_then no_value c.args.label (λ f. filled c.args.label (pure_value c.args.key.now) (pure_tree c.args.tree) f.tree.shape f.tree.parts)
    c.args.state.now c.find.new.state c.fill_entry_found.new.state c.fill_entry_found.result c.in-Ok.ensures c.fill_entry_found.ensures

pub returns-in-Err : goal.returns-in-Err
returns-in-Err c =
    label_gone no_value c.args.label (λ f. filled c.args.label (pure_value c.args.key.now) (pure_tree c.args.tree) f.tree.shape f.tree.parts)
    c.args.state.now c.find.new.state c.find.new.state c.in-Err.stop c.in-Err.ensures
