use Rattle.std.proofs.Common.{ℕ, Err}
use Rattle.cad_rows.specs.Views.{pure_row}
use Rattle.cad_labels.specs.Laws.{AnyOne}
use Rattle.cad_expressions.proofs.Calls.{method_same, aimed_again_keeps}
use Rattle.cad_expression_leaves.specs.Code.Steps.{aimed_again, method_called}
use Rattle.cad_evaluation.specs.Callees.{method}
use Rattle.cad_expression_leaves.specs.Passed.{aimed}
use Rattle.cad_expression_leaves.specs.Passed.{receiver_of}
use Rattle.cad_state.specs.Views.{state_over}
use Rattle.cad_state.proofs.Finding.{find_same, find_stopped, find_then}
use Rattle.cad_syntax.specs.declared.type_id.TypeId.{TypeId}
use Rattle.cad_world.specs.State.{◌>>=◌}
use Rattle.cad_rows.specs.declared.tree.Tree.{Tree}
use Rattle.cad_expression_leaves.specs.Views.{tree_in}
use Rattle.std.specs.Global.{Box}
use Rattle.cad_expressions.proofs.uses.invoke.Goals as goal

pub returns-in-Ok : goal.returns-in-Ok
returns-in-Ok g c = find_same tree_in (method_called (g.E.Evaluator.calls c.args.evaluator.now) c.args.name.now (receiver_of c.args.receiver.now) (pure_row c.args.row.items)) ((aimed_again (receiver_of c.args.receiver.now)) >>= (λ (a : TypeId × ℕ). (g.E.Evaluator.calls c.args.evaluator.now) (method a.0 c.args.name.now a.1) (pure_row c.args.row.items))) c.args.state.now c.call.new.state c.call.result (λ w ready. method_same (g.E.Evaluator.calls c.args.evaluator.now) c.args.name.now (pure_row c.args.row.items) (receiver_of c.args.receiver.now) (state_over w c.args.state.now))
    (find_then AnyOne (aimed_again (receiver_of c.args.receiver.now)) (aimed_again_keeps (receiver_of c.args.receiver.now)) aimed tree_in (λ (a : TypeId × ℕ). (g.E.Evaluator.calls c.args.evaluator.now) (method a.0 c.args.name.now a.1) (pure_row c.args.row.items)) c.in-Ok.goal c.args.state.now c.aim_again.new.state c.call.new.state c.call.result c.in-Ok.ensures (λ h. c.call.ensures))

pub returns-in-Err : goal.returns-in-Err
returns-in-Err g c = find_same tree_in (method_called (g.E.Evaluator.calls c.args.evaluator.now) c.args.name.now (receiver_of c.args.receiver.now) (pure_row c.args.row.items)) ((aimed_again (receiver_of c.args.receiver.now)) >>= (λ (a : TypeId × ℕ). (g.E.Evaluator.calls c.args.evaluator.now) (method a.0 c.args.name.now a.1) (pure_row c.args.row.items))) c.args.state.now c.aim_again.new.state (Err c.in-Err.stop) (λ w ready. method_same (g.E.Evaluator.calls c.args.evaluator.now) c.args.name.now (pure_row c.args.row.items) (receiver_of c.args.receiver.now) (state_over w c.args.state.now))
    (find_stopped {D = Box Tree} aimed tree_in (aimed_again (receiver_of c.args.receiver.now)) (λ (a : TypeId × ℕ). (g.E.Evaluator.calls c.args.evaluator.now) (method a.0 c.args.name.now a.1) (pure_row c.args.row.items)) c.args.state.now c.aim_again.new.state c.aim_again.new.state c.in-Err.stop c.in-Err.ensures)
