use Rattle.cad_expressions.proofs.Composed.{create_parts}
use Rattle.cad_expressions.proofs.row_forms.create_form.Goals as goal

pub returns : goal.returns
returns g c = create_parts (g.E.Evaluator.front c.args.evaluator.now) (g.E.Evaluator.calls c.args.evaluator.now) (g.met.E.Evaluator.keeps c.args.evaluator.now) _ _ c.args.state.now _ _ _ _ c.evaluate_arguments-row.ensures c.create_with.ensures
