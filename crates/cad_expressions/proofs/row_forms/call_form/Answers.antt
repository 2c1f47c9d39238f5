use Rattle.cad_expressions.proofs.Composed.{call_parts}
use Rattle.cad_expressions.proofs.row_forms.call_form.Goals as goal

pub returns : goal.returns
returns g c = λ n m. call_parts (g.E.Evaluator.front c.args.evaluator.now) (g.E.Evaluator.calls c.args.evaluator.now) (g.met.E.Evaluator.keeps c.args.evaluator.now) _ n m _ c.args.state.now _ _ _ _ c.evaluate_arguments-row.ensures c.call_with.ensures
