use Rattle.cad_expressions.proofs.Composed.{borrow_parts}
use Rattle.cad_expressions.proofs.place_forms.borrow_form.Goals as goal

pub returns : goal.returns
returns g c = λ type. borrow_parts (g.E.Evaluator.front c.args.evaluator.now) (g.E.Evaluator.calls c.args.evaluator.now) (g.met.E.Evaluator.keeps c.args.evaluator.now) _ type _ _ _ c.args.state.now _ _ _ _ c.evaluate_place-found.ensures c.borrow_at.ensures
