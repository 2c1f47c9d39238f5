use Rattle.cad_expressions.proofs.Composed.{copy_parts}
use Rattle.cad_expressions.proofs.place_forms.copy_form.Goals as goal

pub returns : goal.returns
returns g c = copy_parts (g.E.Evaluator.front c.args.evaluator.now) (g.E.Evaluator.calls c.args.evaluator.now) (g.met.E.Evaluator.keeps c.args.evaluator.now) _ c.args.state.now _ _ _ _ c.evaluate_place-found.ensures c.copy_at.ensures
