use Rattle.std.proofs.Common.{map, Ok, Err}
use Rattle.cad_rows.specs.Views.{pure_row}
use Rattle.cad_outcomes.specs.Outcomes.{no_value}
use Rattle.cad_evaluation.specs.Builtins.{member}
use Rattle.cad_expressions.proofs.Forms.{bind_assoc}
use Rattle.cad_expression_leaves.specs.Code.Steps.{member_called}
use Rattle.cad_labels.specs.Laws.{AnyOne}
use Rattle.cad_labels.proofs.Forms.{keeps_spend}
use Rattle.cad_expression_leaves.specs.Passed.{receiver_of}
use Rattle.cad_rows.specs.declared.tree.Tree.{Tree}
use Rattle.cad_state.specs.Views.{state_over}
use Rattle.cad_state.proofs.Finding.{find_any, find_same, find_stopped, find_then}
use Rattle.cad_syntax.specs.Types.{pure_type}
use Rattle.cad_world.specs.Receivers.{look_at}
use Rattle.cad_world.specs.State.{tick, ◌>>=◌}
use Rattle.cad_expression_leaves.specs.Views.{tree_in}
use Rattle.std.specs.Global.{Box}
use Rattle.cad_expressions.proofs.uses.call_member_with.Goals as goal

pub returns-in-Ok : goal.returns-in-Ok
unfolding member_called
returns-in-Ok g c =
    let front = g.E.Evaluator.front c.args.evaluator.now in
    let calls = g.E.Evaluator.calls c.args.evaluator.now in
    find_same tree_in (member_called front calls c.args.builtin (map pure_type c.args.types.now) (receiver_of c.args.receiver.now) (pure_row c.args.row.items)) (tick >>= (λ (u : Unit {0}). (look_at (receiver_of c.args.receiver.now)) >>= (λ spot. member front calls c.args.builtin (map pure_type c.args.types.now) spot (pure_row c.args.row.items)))) c.args.state.now c.use_member.new.state c.use_member.result (λ w ready. bind_assoc (tick (state_over w c.args.state.now)) (λ (u : Unit {0}). (look_at (receiver_of c.args.receiver.now))) (λ spot. member front calls c.args.builtin (map pure_type c.args.types.now) spot (pure_row c.args.row.items)))
    (find_then AnyOne tick (keeps_spend 1) no_value tree_in (λ (u : Unit {0}). (look_at (receiver_of c.args.receiver.now)) >>= (λ spot. member front calls c.args.builtin (map pure_type c.args.types.now) spot (pure_row c.args.row.items))) tt c.args.state.now c.tick.new.self c.use_member.new.state c.use_member.result (find_any no_value tick c.args.state.now c.tick.new.self (Ok tt) c.in-Ok.ensures) (λ h. c.use_member.ensures))

pub returns-in-Err : goal.returns-in-Err
unfolding member_called
returns-in-Err g c =
    let front = g.E.Evaluator.front c.args.evaluator.now in
    let calls = g.E.Evaluator.calls c.args.evaluator.now in
    find_same tree_in (member_called front calls c.args.builtin (map pure_type c.args.types.now) (receiver_of c.args.receiver.now) (pure_row c.args.row.items)) (tick >>= (λ (u : Unit {0}). (look_at (receiver_of c.args.receiver.now)) >>= (λ spot. member front calls c.args.builtin (map pure_type c.args.types.now) spot (pure_row c.args.row.items)))) c.args.state.now c.tick.new.self (Err c.in-Err.stop) (λ w ready. bind_assoc (tick (state_over w c.args.state.now)) (λ (u : Unit {0}). (look_at (receiver_of c.args.receiver.now))) (λ spot. member front calls c.args.builtin (map pure_type c.args.types.now) spot (pure_row c.args.row.items)))
    (find_stopped {D = Box Tree} no_value tree_in tick (λ (u : Unit {0}). (look_at (receiver_of c.args.receiver.now)) >>= (λ spot. member front calls c.args.builtin (map pure_type c.args.types.now) spot (pure_row c.args.row.items))) c.args.state.now c.tick.new.self c.tick.new.self c.in-Err.stop (find_any {B = Unit {0}} no_value tick c.args.state.now c.tick.new.self (Err c.in-Err.stop) c.in-Err.ensures))
