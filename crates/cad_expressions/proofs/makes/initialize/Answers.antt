use Rattle.cad_rows.specs.Views.{pure_row}
use Rattle.cad_outcomes.specs.Outcomes.{no_value}
use Rattle.cad_labels.specs.Laws.{AnyOne}
use Rattle.cad_expressions.proofs.Calls.{fields_set_keep}
use Rattle.cad_expression_leaves.specs.Code.Steps.{fields_set, made_from}
use Rattle.cad_evaluation.specs.Making.{finish}
use Rattle.cad_state.proofs.Finding.{find_any, find_stopped, find_then}
use Rattle.cad_rows.specs.declared.tree.Tree.{Tree}
use Rattle.cad_expression_leaves.specs.Views.{tree_in}
use Rattle.std.specs.Global.{Box}
use Rattle.cad_expressions.proofs.makes.initialize.Goals as goal

pub returns-in-Ok : goal.returns-in-Ok
unfolding made_from
returns-in-Ok g c none = find_then AnyOne (fields_set (g.E.Evaluator.calls c.args.evaluator.now) c.args.id.now c.args.label c.args.is_written (pure_row c.args.row.items)) (fields_set_keep (g.E.Evaluator.calls c.args.evaluator.now) c.args.id.now c.args.label c.args.is_written (pure_row c.args.row.items) (g.met.E.Evaluator.keeps c.args.evaluator.now) none) no_value tree_in (λ (u : Unit {0}). finish) tt c.args.state.now c.set_fields.new.state c.finish_boxed.new.state c.finish_boxed.result (c.in-Ok.ensures none) (λ h. find_any tree_in finish c.set_fields.new.state c.finish_boxed.new.state c.finish_boxed.result c.finish_boxed.ensures)

pub returns-in-Err : goal.returns-in-Err
unfolding made_from
returns-in-Err g c none = find_stopped {D = Box Tree} no_value tree_in (fields_set (g.E.Evaluator.calls c.args.evaluator.now) c.args.id.now c.args.label c.args.is_written (pure_row c.args.row.items)) (λ (u : Unit {0}). finish) c.args.state.now c.set_fields.new.state c.set_fields.new.state c.in-Err.stop (c.in-Err.ensures none)
