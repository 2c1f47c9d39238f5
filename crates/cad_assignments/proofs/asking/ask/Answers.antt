use Rattle.cad_evaluation.specs.Containers.{of_type}
use Rattle.cad_labels.specs.Laws.{AnyOne}
use Rattle.cad_outcomes.specs.Outcomes.{no_value}
use Rattle.cad_rows.specs.Views.{pure_tree}
use Rattle.cad_state.proofs.Finding.{find_then, find_stopped}
use Rattle.cad_syntax.specs.Types.{pure_type}
use Rattle.cad_world.specs.State.{done}
use Rattle.cad_assignments.specs.Code.Fills.{type_in}
use Rattle.cad_assignments.proofs.Asked.{type_in_keeps}
use Rattle.cad_assignments.proofs.asking.ask.Goals as goal

pub returns-in-Ok : goal.returns-in-Ok
returns-in-Ok c =
    find_then AnyOne (type_in c.args.inner c.args.label) (type_in_keeps c.args.inner c.args.label) pure_type no_value (λ type. of_type type (pure_tree c.args.tree.now) done) c.in-Ok.declared
    c.args.state.now c.args.state.now c.check_type-answer.new.state c.check_type-answer.result c.in-Ok.ensures (λ _. c.check_type-answer.ensures)

pub returns-in-Err : goal.returns-in-Err
returns-in-Err c =
    find_stopped pure_type no_value (type_in c.args.inner c.args.label) (λ type. of_type type (pure_tree c.args.tree.now) done) c.args.state.now c.args.state.now c.args.state.now c.in-Err.stop c.in-Err.ensures
