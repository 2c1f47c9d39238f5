use Rattle.cad_expressions.proofs.Composed.{dictionary_parts}
use Rattle.cad_expressions.proofs.row_forms.dictionary_form.Goals as goal

pub returns : goal.returns
returns g c = dictionary_parts (g.E.Evaluator.front c.args.evaluator.now) (g.E.Evaluator.calls c.args.evaluator.now) (g.met.E.Evaluator.keeps c.args.evaluator.now) _ _ _ c.args.state.now _ _ _ _ c.evaluate_entries-pairs.ensures c.dictionary_with.ensures
