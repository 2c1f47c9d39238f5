use Rattle.std.proofs.Common.{Ok, refl}
use Rattle.cad_outcomes.specs.Outcomes.{no_value}
use Rattle.cad_expression_leaves.proofs.Going.{any_on, any_stopped}
use Rattle.cad_expression_leaves.specs.Code.Steps.{taken_down}
use Rattle.cad_evaluation.specs.Ending.{ended}
use Rattle.cad_world.specs.State.{give}
use Rattle.cad_rows.specs.declared.tree.Tree.{Tree}
use Rattle.cad_expression_leaves.specs.Views.{tree_in}
use Rattle.std.specs.Global.{Box}
use Rattle.cad_expression_leaves.proofs.values.end_behind.Goals as goal

pub returns-in-Ok : goal.returns-in-Ok
unfolding taken_down
returns-in-Ok c = any_on (ended c.args.number) no_value tree_in (λ _. give (tree_in c.args.value)) c.end_variables.result tt c.args.state.now c.end_variables.new.state c.end_variables.new.state (Ok c.args.value) c.in-Ok.is c.end_variables.ensures (λ w. refl)

pub returns-in-Err : goal.returns-in-Err
unfolding taken_down
returns-in-Err c = any_stopped {D = Box Tree} (ended c.args.number) no_value tree_in (λ _. give (tree_in c.args.value)) c.end_variables.result c.in-Err.stop c.args.state.now c.end_variables.new.state c.end_variables.new.state c.in-Err.is c.end_variables.ensures
