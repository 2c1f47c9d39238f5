use Rattle.std.proofs.Common.{[], Ok, Err, arith}
use Rattle.cad_labels.specs.Laws.{AnyOne}
use Rattle.cad_making.specs.Dying.{dying_of, laid_out}
use Rattle.cad_making.specs.declared.dying.Dying.{Dying}
use Rattle.cad_making.proofs.Keeping.{laying_out_keeps}
use Rattle.cad_rows.specs.declared.tree.Tree.{Tree}
use Rattle.cad_state.specs.Views.{state_over}
use Rattle.cad_state.proofs.Finding.{find_any, find_same, find_stopped, find_then}
use Rattle.cad_world.specs.State.{◌>>=◌}
use Rattle.cad_expressions.specs.Code.Ending.{ended_from}
use Rattle.cad_expression_leaves.specs.Code.Steps.{ended_by}
use Rattle.cad_expressions.proofs.Destroying.{ended_same, labels_lie_before}
use Rattle.cad_expression_leaves.specs.Views.{tree_in}
use Rattle.std.specs.Global.{Box}
use Rattle.cad_expressions.proofs.ends.destroy.Goals as goal

pub end_laid_out-requires-clause-labels : goal.end_laid_out-requires-clause-labels
end_laid_out-requires-clause-labels g c = omega (arith, labels_lie_before (tree_in c.args.value) (state_over [] c.args.state.now) (state_over [] c.lay_out_boxed.new.state) (dying_of c.in-Ok.dying) (c.in-Ok.ensures []))

pub returns-in-Ok : goal.returns-in-Ok
returns-in-Ok g c none = find_same tree_in (ended_by (g.E.Evaluator.calls c.args.evaluator.now) (tree_in c.args.value)) (laid_out (tree_in c.args.value) >>= ended_from (g.E.Evaluator.calls c.args.evaluator.now)) c.args.state.now c.end_laid_out.new.state c.end_laid_out.result (λ w ready. ended_same (g.E.Evaluator.calls c.args.evaluator.now) (tree_in c.args.value) (state_over w c.args.state.now))
    (find_then AnyOne (laid_out (tree_in c.args.value)) (laying_out_keeps (tree_in c.args.value) none) dying_of tree_in (ended_from (g.E.Evaluator.calls c.args.evaluator.now)) c.in-Ok.dying c.args.state.now c.lay_out_boxed.new.state c.end_laid_out.new.state c.end_laid_out.result
    (find_any dying_of (laid_out (tree_in c.args.value)) c.args.state.now c.lay_out_boxed.new.state (Ok c.in-Ok.dying) c.in-Ok.ensures) (λ h. c.end_laid_out.ensures))

pub returns-in-Err : goal.returns-in-Err
returns-in-Err g c none = find_same tree_in (ended_by (g.E.Evaluator.calls c.args.evaluator.now) (tree_in c.args.value)) (laid_out (tree_in c.args.value) >>= ended_from (g.E.Evaluator.calls c.args.evaluator.now)) c.args.state.now c.lay_out_boxed.new.state (Err c.in-Err.stop) (λ w ready. ended_same (g.E.Evaluator.calls c.args.evaluator.now) (tree_in c.args.value) (state_over w c.args.state.now))
    (find_stopped {D = Box Tree} dying_of tree_in (laid_out (tree_in c.args.value)) (ended_from (g.E.Evaluator.calls c.args.evaluator.now)) c.args.state.now c.lay_out_boxed.new.state c.lay_out_boxed.new.state c.in-Err.stop
    (find_any {B = Dying} dying_of (laid_out (tree_in c.args.value)) c.args.state.now c.lay_out_boxed.new.state (Err c.in-Err.stop) c.in-Err.ensures))
