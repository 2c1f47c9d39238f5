use Rattle.cad_declarations.specs.Views.{term_of}
use Rattle.cad_expression_leaves.specs.Code.Steps.{evaluated, typed}
use Rattle.cad_expressions.proofs.Forms.{evaluated_keeps}
use Rattle.cad_expressions.proofs.entries.evaluate_typed.Goals as goal

pub returns : goal.returns
unfolding typed
returns g c = c.hand_over.ensures.goes c.args.state.now (evaluated (g.E.Evaluator.front c.args.evaluator.now) (g.E.Evaluator.calls c.args.evaluator.now) (term_of c.args.term.now)) (evaluated_keeps (g.E.Evaluator.front c.args.evaluator.now) (g.E.Evaluator.calls c.args.evaluator.now) (term_of c.args.term.now) (g.met.E.Evaluator.keeps c.args.evaluator.now)) c.value-found.ensures
