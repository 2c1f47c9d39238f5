use Rattle.cad_expressions.proofs.Composed.{on_parts}
use Rattle.cad_expressions.proofs.place_forms.use_form.Goals as goal

pub returns : goal.returns
returns g c = on_parts (g.E.Evaluator.front c.args.evaluator.now) (g.E.Evaluator.calls c.args.evaluator.now) (g.met.E.Evaluator.keeps c.args.evaluator.now) _ _ c.args.state.now _ _ _ _ c.receiver_in-receiver.ensures c.use_on.ensures
