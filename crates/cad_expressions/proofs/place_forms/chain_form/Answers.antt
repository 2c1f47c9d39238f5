use Rattle.cad_expressions.proofs.Composed.{chain_parts}
use Rattle.cad_expressions.proofs.place_forms.chain_form.Goals as goal

pub returns : goal.returns
returns g c = chain_parts (g.E.Evaluator.front c.args.evaluator.now) (g.E.Evaluator.calls c.args.evaluator.now) (g.met.E.Evaluator.keeps c.args.evaluator.now) _ _ _ c.args.state.now _ _ _ _ c.chain_receiver_in-receiver.ensures c.use_in_chain.ensures
