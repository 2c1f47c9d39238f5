use Rattle.cad_evaluation.specs.Ending.{events_of}
use Rattle.cad_labels.specs.Laws.{AnyOne}
use Rattle.cad_making.specs.Dying.{dying_of}
use Rattle.cad_making.proofs.Keeping.{events_keep}
use Rattle.cad_rows.specs.declared.tree.Tree.{Tree}
use Rattle.cad_state.proofs.Finding.{find_any, find_stopped, find_then}
use Rattle.cad_expressions.specs.Code.Ending.{ended_from, told_and_gone}
use Rattle.cad_expression_leaves.specs.Views.{tree_in, trees_of}
use Rattle.std.specs.Global.{Box}
use Rattle.cad_expressions.proofs.ends.end_laid_out.Goals as goal

pub returns-in-Ok : goal.returns-in-Ok
unfolding ended_from
returns-in-Ok g c = find_then AnyOne (events_of (g.E.Evaluator.calls c.args.evaluator.now) c.args.dying.first_label c.args.dying.types) (events_keep (g.E.Evaluator.calls c.args.evaluator.now) (g.met.E.Evaluator.keeps c.args.evaluator.now) c.args.dying.first_label c.args.dying.types) trees_of tree_in (told_and_gone (dying_of c.args.dying)) c.in-Ok.events c.args.state.now c.make_events.new.state c.emit_and_bury_boxed.new.state c.emit_and_bury_boxed.result c.in-Ok.ensures
    (λ h. find_any tree_in (told_and_gone (dying_of c.args.dying) (trees_of c.in-Ok.events)) c.make_events.new.state c.emit_and_bury_boxed.new.state c.emit_and_bury_boxed.result c.emit_and_bury_boxed.ensures)

pub returns-in-Err : goal.returns-in-Err
unfolding ended_from
returns-in-Err g c = find_stopped {D = Box Tree} trees_of tree_in (events_of (g.E.Evaluator.calls c.args.evaluator.now) c.args.dying.first_label c.args.dying.types) (told_and_gone (dying_of c.args.dying)) c.args.state.now c.make_events.new.state c.make_events.new.state c.in-Err.stop c.in-Err.ensures
