use Rattle.cad_expressions.proofs.Composed.{take_parts}
use Rattle.cad_expressions.proofs.place_forms.take_form.Goals as goal

pub returns : goal.returns
returns g c = take_parts (g.E.Evaluator.front c.args.evaluator.now) (g.E.Evaluator.calls c.args.evaluator.now) (g.met.E.Evaluator.keeps c.args.evaluator.now) _ c.args.state.now _ _ _ _ c.evaluate_place-found.ensures c.take_at.ensures
