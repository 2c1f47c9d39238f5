use Rattle.cad_declarations.specs.Views.{term_of}
use Rattle.cad_expression_leaves.proofs.Told.{operands_told}
use Rattle.cad_expression_leaves.proofs.at_once.binary_at_once.Goals as goal

pub returns-in-Some-number_at_once : goal.returns-in-Some-number_at_once
returns-in-Some-number_at_once c =
    operands_told c.args.operator (term_of c.args.left.now) (term_of c.args.right.now) c.args.state.now c.in-Some.x c.in-Some-number_at_once.y c.operate.result c.in-Some.ensures c.in-Some-number_at_once.ensures c.operate.ensures
