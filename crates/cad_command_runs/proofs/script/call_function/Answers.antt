use Rattle.std.proofs.Common.{Ok, Err}
use Rattle.std.specs.Global.{Box}
use Rattle.cad_calls.specs.Passed.{tree_in}
use Rattle.cad_evaluation.specs.Callees.{function}
use Rattle.cad_evaluation.specs.Evaluation.{calls_to}
use Rattle.cad_command_runs.specs.Code.Scripts.{called}
use Rattle.cad_labels.proofs.Forms.{keeps_spend}
use Rattle.cad_labels.specs.Laws.{AnyOne}
use Rattle.cad_outcomes.specs.Outcomes.{no_value}
use Rattle.cad_rows.specs.Views.{pure_row}
use Rattle.cad_rows.specs.declared.tree.Tree.{Tree}
use Rattle.cad_state.proofs.Finding.{find_any, find_stopped, find_then}
use Rattle.cad_world.specs.State.{tick}
use Rattle.cad_command_runs.proofs.script.call_function.Goals as goal

pub returns-in-Ok : goal.returns-in-Ok
unfolding called
returns-in-Ok g c =
    find_then AnyOne tick (keeps_spend 1) no_value tree_in (λ _. calls_to (g.E.FrontEnd.front c.args.end.now) c.args.fuel (function c.args.name.now) (pure_row c.args.arguments.items)) tt c.args.state.now c.tick.new.self c.call_with.new.state c.call_with.result
    (find_any no_value tick c.args.state.now c.tick.new.self (Ok tt) c.in-Ok.ensures) (λ h. c.call_with.ensures)

pub returns-in-Err : goal.returns-in-Err
unfolding called
returns-in-Err g c =
    find_stopped {D = Box Tree} no_value tree_in tick (λ _. calls_to (g.E.FrontEnd.front c.args.end.now) c.args.fuel (function c.args.name.now) (pure_row c.args.arguments.items)) c.args.state.now c.tick.new.self c.tick.new.self c.in-Err.stop
    (find_any {B = Unit {0}} no_value tick c.args.state.now c.tick.new.self (Err c.in-Err.stop) c.in-Err.ensures)
