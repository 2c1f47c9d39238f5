use Rattle.cad_expression_leaves.proofs.Going.{goes_on, goes_given, goes_stopped}
use Rattle.cad_expression_leaves.specs.Code.Steps.{conjoined, evaluated}
use Rattle.std.proofs.Common.{◌∙◌, ap, Ok}
use Rattle.cad_declarations.specs.Views.{term_of}
use Rattle.cad_expressions.proofs.Forms.{evaluated_keeps}
use Rattle.cad_expressions.proofs.operands.conjoin.Goals as goal

pub returns-in-Ok-true : goal.returns-in-Ok-true
unfolding conjoined
returns-in-Ok-true g c = goes_on _ _ _ _ _ _ _ _ _ (c.in-Ok-true.is ∙ ap Ok c.in-Ok-true.field-0-test) (c.truth_only_of.ensures.goes c.args.state.now (evaluated (g.E.Evaluator.front c.args.evaluator.now) (g.E.Evaluator.calls c.args.evaluator.now) (term_of c.args.right.now)) (evaluated_keeps (g.E.Evaluator.front c.args.evaluator.now) (g.E.Evaluator.calls c.args.evaluator.now) (term_of c.args.right.now) (g.met.E.Evaluator.keeps c.args.evaluator.now)) c.value-y.ensures)

pub returns-in-Ok-false : goal.returns-in-Ok-false
unfolding conjoined
returns-in-Ok-false g c = goes_given _ _ _ _ _ _ _ _ (c.in-Ok-false.is ∙ ap Ok c.in-Ok-false.field-0-test) c.boxed_truth.ensures

pub returns-in-Err : goal.returns-in-Err
returns-in-Err g c = goes_stopped _ _ _ _ _ _ _ _ c.in-Err.is
