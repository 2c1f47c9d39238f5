use Rattle.std.proofs.Common.{ℕ, Ok, Err, ap, sym, ◌∙◌}
use Rattle.cad_rows.specs.Views.{pure_row}
use Rattle.cad_labels.specs.Laws.{AnyOne}
use Rattle.cad_expressions.proofs.Calls.{make_same, begun_keeps}
use Rattle.cad_making.specs.Making.{begun}
use Rattle.cad_expression_leaves.specs.Code.Steps.{made_from}
use Rattle.cad_evaluation.specs.Making.{make}
use Rattle.cad_state.specs.Views.{state_over}
use Rattle.cad_state.proofs.Finding.{find_any, find_same, find_stopped, find_then}
use Rattle.cad_world.specs.State.{◌>>=◌}
use Rattle.cad_rows.specs.declared.tree.Tree.{Tree}
use Rattle.cad_expression_leaves.specs.Views.{tree_in}
use Rattle.std.specs.Global.{Box}
use Rattle.cad_expressions.proofs.makes.make.Goals as goal

pub returns-in-Ok : goal.returns-in-Ok
returns-in-Ok g c none = find_same tree_in (make (g.E.Evaluator.calls c.args.evaluator.now) c.args.id.now c.args.identity (pure_row c.args.row.items)) ((begun c.args.id.now c.args.identity) >>= (λ (l : ℕ). made_from (g.E.Evaluator.calls c.args.evaluator.now) c.args.id.now l c.has_initializer-is_written.result (pure_row c.args.row.items))) c.args.state.now c.initialize.new.state c.initialize.result (λ w ready. make_same (g.E.Evaluator.calls c.args.evaluator.now) c.args.id.now c.args.identity (pure_row c.args.row.items) (state_over w c.args.state.now) ∙ ap (λ b. ((begun c.args.id.now c.args.identity) >>= (λ (l : ℕ). made_from (g.E.Evaluator.calls c.args.evaluator.now) c.args.id.now l b (pure_row c.args.row.items))) (state_over w c.args.state.now)) (sym c.has_initializer-is_written.ensures))
    (find_then AnyOne (begun c.args.id.now c.args.identity) (begun_keeps c.args.id.now c.args.identity) (λ (identity : ℕ). identity) tree_in (λ (l : ℕ). made_from (g.E.Evaluator.calls c.args.evaluator.now) c.args.id.now l c.has_initializer-is_written.result (pure_row c.args.row.items)) c.in-Ok.label c.args.state.now c.begin.new.state c.initialize.new.state c.initialize.result (find_any (λ (identity : ℕ). identity) (begun c.args.id.now c.args.identity) c.args.state.now c.begin.new.state (Ok c.in-Ok.label) c.in-Ok.ensures) (λ h. c.initialize.ensures none))

pub returns-in-Err : goal.returns-in-Err
returns-in-Err g c none = find_same tree_in (make (g.E.Evaluator.calls c.args.evaluator.now) c.args.id.now c.args.identity (pure_row c.args.row.items)) ((begun c.args.id.now c.args.identity) >>= (λ (l : ℕ). made_from (g.E.Evaluator.calls c.args.evaluator.now) c.args.id.now l c.has_initializer-is_written.result (pure_row c.args.row.items))) c.args.state.now c.begin.new.state (Err c.in-Err.stop) (λ w ready. make_same (g.E.Evaluator.calls c.args.evaluator.now) c.args.id.now c.args.identity (pure_row c.args.row.items) (state_over w c.args.state.now) ∙ ap (λ b. ((begun c.args.id.now c.args.identity) >>= (λ (l : ℕ). made_from (g.E.Evaluator.calls c.args.evaluator.now) c.args.id.now l b (pure_row c.args.row.items))) (state_over w c.args.state.now)) (sym c.has_initializer-is_written.ensures))
    (find_stopped {D = Box Tree} (λ (identity : ℕ). identity) tree_in (begun c.args.id.now c.args.identity) (λ (l : ℕ). made_from (g.E.Evaluator.calls c.args.evaluator.now) c.args.id.now l c.has_initializer-is_written.result (pure_row c.args.row.items)) c.args.state.now c.begin.new.state c.begin.new.state c.in-Err.stop (find_any (λ (identity : ℕ). identity) (begun c.args.id.now c.args.identity) c.args.state.now c.begin.new.state (Err c.in-Err.stop) c.in-Err.ensures))
