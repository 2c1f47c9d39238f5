use Rattle.std.proofs.Common.{Ok, Err, ap, sym}
use Rattle.cad_evaluation.specs.Containers.{void_tree}
use Rattle.cad_evaluation.specs.Ending.{all_emitted}
use Rattle.cad_making.specs.Dying.{buried, dying_of}
use Rattle.cad_outcomes.specs.Outcomes.{no_value}
use Rattle.cad_rows.specs.Views.{pure_tree}
use Rattle.cad_rows.specs.declared.tree.Tree.{Tree}
use Rattle.cad_state.specs.Views.{state_over}
use Rattle.cad_world.specs.State.{◌>>◌, give, ok}
use Rattle.cad_expressions.specs.Code.Ending.{told_and_gone}
use Rattle.cad_expression_leaves.specs.Views.{trees_of}
use Rattle.cad_expression_leaves.proofs.Going.{any_on, any_stopped}
use Rattle.cad_expressions.proofs.ends.emit_and_bury.Goals as goal

pub returns-in-Ok-bury : goal.returns-in-Ok-bury
unfolding told_and_gone
returns-in-Ok-bury c = any_on (all_emitted (trees_of c.args.events)) no_value pure_tree (λ _. buried (dying_of c.args.dying) >> give void_tree) c.emit_all.result tt c.args.state.now c.emit_all.new.state c.bury.new.state (Ok c.void_tree.result) c.in-Ok.is c.emit_all.ensures
    (any_on (buried (dying_of c.args.dying)) no_value pure_tree (λ _. give void_tree) c.bury.result tt c.emit_all.new.state c.bury.new.state c.bury.new.state (Ok c.void_tree.result) c.in-Ok-bury.is c.bury.ensures (λ w. ap (λ t. ok t (state_over w c.bury.new.state)) (sym c.void_tree.ensures)))

pub returns-in-Err-bury : goal.returns-in-Err-bury
unfolding told_and_gone
returns-in-Err-bury c = any_on (all_emitted (trees_of c.args.events)) no_value pure_tree (λ _. buried (dying_of c.args.dying) >> give void_tree) c.emit_all.result tt c.args.state.now c.emit_all.new.state c.bury.new.state (Err c.in-Err-bury.stop) c.in-Ok.is c.emit_all.ensures
    (any_stopped {D = Tree} (buried (dying_of c.args.dying)) no_value pure_tree (λ _. give void_tree) c.bury.result c.in-Err-bury.stop c.emit_all.new.state c.bury.new.state c.bury.new.state c.in-Err-bury.is c.bury.ensures)

pub returns-in-Err : goal.returns-in-Err
unfolding told_and_gone
returns-in-Err c = any_stopped {D = Tree} (all_emitted (trees_of c.args.events)) no_value pure_tree (λ _. buried (dying_of c.args.dying) >> give void_tree) c.emit_all.result c.in-Err.stop c.args.state.now c.emit_all.new.state c.emit_all.new.state c.in-Err.is c.emit_all.ensures
