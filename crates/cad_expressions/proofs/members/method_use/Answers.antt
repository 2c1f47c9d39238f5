use Rattle.cad_expressions.proofs.Composed.{method_parts}
use Rattle.cad_expression_leaves.specs.Passed.{receiver_of}
use Rattle.cad_expressions.proofs.members.method_use.Goals as goal

pub returns : goal.returns
returns g c = λ n m. method_parts (g.E.Evaluator.front c.args.evaluator.now) (g.E.Evaluator.calls c.args.evaluator.now) (g.met.E.Evaluator.keeps c.args.evaluator.now) (receiver_of c.args.receiver.now) _ n m _ c.args.state.now _ _ _ _ _ _ c.check_callable-ready.ensures c.arguments_behind-row.ensures c.call_method.ensures
