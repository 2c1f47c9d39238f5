use Rattle.cad_expressions.proofs.Composed.{hold_parts}
use Rattle.cad_expressions.proofs.value_forms.hold_form.Goals as goal

pub returns : goal.returns
returns g c = λ type. hold_parts (g.E.Evaluator.front c.args.evaluator.now) (g.E.Evaluator.calls c.args.evaluator.now) (g.met.E.Evaluator.keeps c.args.evaluator.now) _ type _ _ c.args.state.now _ _ _ _ _ _ _ _ c.value-held.ensures c.put_aside-aside.ensures c.evaluate_behind-found.ensures c.take_down.ensures
