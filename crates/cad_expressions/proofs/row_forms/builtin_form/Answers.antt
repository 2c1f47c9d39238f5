use Rattle.cad_expressions.proofs.Composed.{builtin_parts}
use Rattle.cad_expressions.proofs.row_forms.builtin_form.Goals as goal

pub returns : goal.returns
returns g c = builtin_parts (g.E.Evaluator.front c.args.evaluator.now) (g.E.Evaluator.calls c.args.evaluator.now) (g.met.E.Evaluator.keeps c.args.evaluator.now) _ _ _ c.args.state.now _ _ _ _ c.evaluate_arguments-row.ensures c.builtin_with.ensures
