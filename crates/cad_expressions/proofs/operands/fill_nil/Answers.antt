use Rattle.cad_expression_leaves.proofs.Going.{goes_on, goes_stopped}
use Rattle.cad_expression_leaves.specs.Code.Steps.{evaluated, filled_by}
use Rattle.std.proofs.Common.{refl, ap, Ok, ◌∙◌}
use Rattle.cad_declarations.specs.Views.{term_of}
use Rattle.cad_expressions.proofs.Forms.{evaluated_keeps}
use Rattle.cad_expressions.proofs.operands.fill_nil.Goals as goal

pub returns-in-Ok-Some : goal.returns-in-Ok-Some
unfolding filled_by
returns-in-Ok-Some g c = goes_on _ _ _ _ _ _ _ _ _ (c.in-Ok-Some.is ∙ ap Ok c.in-Ok-Some.field-0-is) (λ w ready. refl)

pub returns-in-Ok-None : goal.returns-in-Ok-None
unfolding filled_by
returns-in-Ok-None g c = goes_on _ _ _ _ _ _ _ _ _ (c.in-Ok-None.is ∙ ap Ok c.in-Ok-None.field-0-is) ((c.round_to.ensures c.value-y.new.state).goes c.args.state.now (evaluated (g.E.Evaluator.front c.args.evaluator.now) (g.E.Evaluator.calls c.args.evaluator.now) (term_of c.args.right.now)) (evaluated_keeps (g.E.Evaluator.front c.args.evaluator.now) (g.E.Evaluator.calls c.args.evaluator.now) (term_of c.args.right.now) (g.met.E.Evaluator.keeps c.args.evaluator.now)) c.value-y.ensures)

pub returns-in-Err : goal.returns-in-Err
returns-in-Err g c = goes_stopped _ _ _ _ _ _ _ _ c.in-Err.is
