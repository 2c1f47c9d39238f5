use Rattle.cad_evaluation.specs.Making.{finish}
use Rattle.cad_expression_leaves.proofs.Boxing.{carries_boxed}
use Rattle.cad_expressions.proofs.makes.finish_boxed.Goals as goal

pub returns : goal.returns
returns c = carries_boxed finish c.args.state.now c.finish.new.state c.finish.result c.boxed.result c.boxed.ensures c.finish.ensures
