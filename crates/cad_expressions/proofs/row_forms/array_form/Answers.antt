use Rattle.cad_expressions.proofs.Composed.{array_parts}
use Rattle.cad_expressions.proofs.row_forms.array_form.Goals as goal

pub returns : goal.returns
returns g c = array_parts (g.E.Evaluator.front c.args.evaluator.now) (g.E.Evaluator.calls c.args.evaluator.now) (g.met.E.Evaluator.keeps c.args.evaluator.now) _ _ c.args.state.now _ _ _ _ c.evaluate_terms-row.ensures (c.array_with.ensures c.evaluate_terms-row.new.state)
