use Rattle.cad_expression_leaves.proofs.Going.{goes_on, goes_given, goes_stopped}
use Rattle.cad_expression_leaves.specs.Code.Steps.{chained_use, used, wrapped_by}
use Rattle.std.proofs.Common.{◌∙◌, ap, Ok}
use Rattle.cad_declarations.specs.Views.{use_of}
use Rattle.cad_expression_leaves.specs.Passed.{receiver_of}
use Rattle.cad_expressions.proofs.Forms.{used_keeps}
use Rattle.cad_expressions.proofs.operands.use_in_chain.Goals as goal

pub returns-in-Ok-Some : goal.returns-in-Ok-Some
unfolding chained_use wrapped_by
returns-in-Ok-Some g c = goes_on _ _ _ _ _ _ _ _ _ (c.in-Ok-Some.is ∙ ap Ok c.in-Ok-Some.field-0-is) ((c.wrap_if.ensures c.evaluate_use-found.new.state).goes c.args.state.now (used (g.E.Evaluator.front c.args.evaluator.now) (g.E.Evaluator.calls c.args.evaluator.now) (use_of c.args.member.now) (receiver_of c.in-Ok-Some.own)) (used_keeps (g.E.Evaluator.front c.args.evaluator.now) (g.E.Evaluator.calls c.args.evaluator.now) (use_of c.args.member.now) (receiver_of c.in-Ok-Some.own) (g.met.E.Evaluator.keeps c.args.evaluator.now)) c.evaluate_use-found.ensures)

pub returns-in-Ok-None : goal.returns-in-Ok-None
unfolding chained_use
returns-in-Ok-None g c = goes_given _ _ _ _ _ _ _ _ (c.in-Ok-None.is ∙ ap Ok c.in-Ok-None.field-0-is) c.boxed_nil.ensures

pub returns-in-Err : goal.returns-in-Err
returns-in-Err g c = goes_stopped _ _ _ _ _ _ _ _ c.in-Err.is
