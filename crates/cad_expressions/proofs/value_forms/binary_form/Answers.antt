use Rattle.cad_expressions.proofs.Composed.{binary_parts}
use Rattle.cad_expressions.proofs.value_forms.binary_form.Goals as goal

pub returns-in-Some : goal.returns-in-Some
returns-in-Some g c = c.in-Some.ensures (g.E.Evaluator.front c.args.evaluator.now) (g.E.Evaluator.calls c.args.evaluator.now)

pub returns-in-None : goal.returns-in-None
returns-in-None g c = binary_parts (g.E.Evaluator.front c.args.evaluator.now) (g.E.Evaluator.calls c.args.evaluator.now) (g.met.E.Evaluator.keeps c.args.evaluator.now) _ _ _ c.args.state.now _ _ _ _ c.value-found.ensures c.combine.ensures
