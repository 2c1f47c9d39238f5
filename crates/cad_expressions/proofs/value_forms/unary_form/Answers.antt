use Rattle.cad_expressions.proofs.Composed.{unary_parts}
use Rattle.cad_expressions.proofs.value_forms.unary_form.Goals as goal

pub returns : goal.returns
returns g c = unary_parts (g.E.Evaluator.front c.args.evaluator.now) (g.E.Evaluator.calls c.args.evaluator.now) (g.met.E.Evaluator.keeps c.args.evaluator.now) _ _ c.args.state.now _ _ _ _ c.value-found.ensures c.unary_of.ensures
