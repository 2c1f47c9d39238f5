use Rattle.std.proofs.Common.{Ok, Err}
use Rattle.cad_world.specs.State.{tick, give}
use Rattle.cad_labels.proofs.Forms.{keeps_spend}
use Rattle.cad_labels.specs.Laws.{AnyOne}
use Rattle.cad_evaluation.specs.Casts.{type_tree}
use Rattle.cad_outcomes.specs.Outcomes.{no_value}
use Rattle.cad_rows.specs.Views.{pure_tree}
use Rattle.cad_rows.specs.declared.tree.Tree.{Tree}
use Rattle.cad_state.proofs.Finding.{find_any, find_stopped, find_then}
use Rattle.cad_syntax.specs.Types.{pure_type}
use Rattle.cad_expression_leaves.proofs.Boxing.{carries_boxed}
use Rattle.cad_expression_leaves.proofs.Plain.{copy_carried}
use Rattle.cad_expression_leaves.specs.Code.Steps.{type_called}
use Rattle.cad_expression_leaves.specs.Views.{tree_in}
use Rattle.std.specs.Global.{Box}
use Rattle.cad_expression_leaves.proofs.literals.call_type.Goals as goal

pub returns-in-Ok : goal.returns-in-Ok
unfolding type_called
returns-in-Ok c = find_then AnyOne tick (keeps_spend 1) no_value tree_in (λ _. give (type_tree (pure_type c.args.declared.now))) tt c.args.state.now c.tick.new.self c.tick.new.self c.boxed.result
    (find_any no_value tick c.args.state.now c.tick.new.self (Ok tt) c.in-Ok.ensures)
    (λ h. find_any tree_in (give (type_tree (pure_type c.args.declared.now))) c.tick.new.self c.tick.new.self c.boxed.result
    (carries_boxed (give (type_tree (pure_type c.args.declared.now))) c.tick.new.self c.tick.new.self c.type_copy.result c.boxed.result c.boxed.ensures
    (copy_carried pure_tree (type_tree (pure_type c.args.declared.now)) c.type_copy.result c.tick.new.self c.type_copy.ensures)))

pub returns-in-Err : goal.returns-in-Err
unfolding type_called
returns-in-Err c = find_stopped {D = Box Tree} no_value tree_in tick (λ _. give (type_tree (pure_type c.args.declared.now))) c.args.state.now c.tick.new.self c.tick.new.self c.in-Err.stop
    (find_any {B = Unit {0}} no_value tick c.args.state.now c.tick.new.self (Err c.in-Err.stop) c.in-Err.ensures)
