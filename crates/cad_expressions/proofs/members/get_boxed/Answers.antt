use Rattle.cad_evaluation.specs.Reading.{read_field}
use Rattle.cad_expression_leaves.specs.Passed.{at_spot, receiver_of}
use Rattle.cad_expression_leaves.proofs.Boxing.{finds_boxed}
use Rattle.cad_expressions.proofs.members.get_boxed.Goals as goal

pub returns : goal.returns
returns c = finds_boxed (at_spot (receiver_of c.args.receiver.now) (read_field c.args.name.now c.args.authorization.now)) c.args.state.now c.get.new.state c.get.result c.boxed.result c.boxed.ensures c.get.ensures
