use Rattle.cad_expressions.proofs.Composed.{force_parts}
use Rattle.cad_expressions.proofs.value_forms.force_form.Goals as goal

pub returns : goal.returns
returns g c = force_parts (g.E.Evaluator.front c.args.evaluator.now) (g.E.Evaluator.calls c.args.evaluator.now) (g.met.E.Evaluator.keeps c.args.evaluator.now) _ c.args.state.now _ _ _ _ c.value-found.ensures (c.force_of.ensures c.value-found.new.state)
