use Rattle.cad_expressions.proofs.Composed.{conditional_parts}
use Rattle.cad_expressions.proofs.value_forms.conditional_form.Goals as goal

pub returns : goal.returns
returns g c = conditional_parts (g.E.Evaluator.front c.args.evaluator.now) (g.E.Evaluator.calls c.args.evaluator.now) (g.met.E.Evaluator.keeps c.args.evaluator.now) _ _ _ c.args.state.now _ _ _ _ _ _ c.value-found.ensures (c.truth_of-truth.ensures c.value-found.new.state) c.choose_branch.ensures
