use Rattle.cad_expressions.proofs.Composed.{is_nil_parts}
use Rattle.cad_expressions.proofs.place_forms.nil_form.Goals as goal

pub returns : goal.returns
returns g c = is_nil_parts (g.E.Evaluator.front c.args.evaluator.now) (g.E.Evaluator.calls c.args.evaluator.now) (g.met.E.Evaluator.keeps c.args.evaluator.now) _ _ c.args.state.now _ _ _ _ c.evaluate_place-found.ensures c.nil_at.ensures
