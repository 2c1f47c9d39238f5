use Rattle.cad_expression_leaves.proofs.Going.{goes_on, goes_stopped}
use Rattle.cad_expression_leaves.specs.Code.Steps.{applied, evaluated}
use Rattle.cad_declarations.specs.Views.{term_of}
use Rattle.cad_expressions.proofs.Forms.{evaluated_keeps}
use Rattle.cad_expressions.proofs.operands.apply.Goals as goal

pub returns-in-Ok : goal.returns-in-Ok
unfolding applied
returns-in-Ok g c = goes_on _ _ _ _ _ _ _ _ _ c.in-Ok.is (c.binary_of.ensures.goes c.args.state.now (evaluated (g.E.Evaluator.front c.args.evaluator.now) (g.E.Evaluator.calls c.args.evaluator.now) (term_of c.args.right.now)) (evaluated_keeps (g.E.Evaluator.front c.args.evaluator.now) (g.E.Evaluator.calls c.args.evaluator.now) (term_of c.args.right.now) (g.met.E.Evaluator.keeps c.args.evaluator.now)) c.value-y.ensures)

pub returns-in-Err : goal.returns-in-Err
returns-in-Err g c = goes_stopped _ _ _ _ _ _ _ _ c.in-Err.is
