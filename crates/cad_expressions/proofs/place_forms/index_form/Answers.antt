use Rattle.cad_expressions.proofs.Composed.{index_parts}
use Rattle.cad_expressions.proofs.place_forms.index_form.Goals as goal

pub returns : goal.returns
returns g c = λ type. index_parts (g.E.Evaluator.front c.args.evaluator.now) (g.E.Evaluator.calls c.args.evaluator.now) (g.met.E.Evaluator.keeps c.args.evaluator.now) type _ _ c.args.state.now _ _ _ _ c.receiver_in-receiver.ensures c.index_on.ensures
