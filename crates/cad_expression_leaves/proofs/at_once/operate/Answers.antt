use Rattle.cad_evaluation.specs.Numbers.{bool_tree, number_tree}
use Rattle.cad_evaluation.specs.Operators.{binary}
use Rattle.cad_expression_leaves.proofs.Told.{given_boxed}
use Rattle.cad_expression_leaves.proofs.at_once.operate.Goals as goal

pub returns-in-Some : goal.returns-in-Some
returns-in-Some c =
    given_boxed bool_tree (binary c.args.operator (number_tree c.args.x) (number_tree c.args.y)) c.in-Some.truth c.boxed_truth.result c.in-Some.ensures c.boxed_truth.ensures

pub returns-in-Some-calculate_numbers : goal.returns-in-Some-calculate_numbers
returns-in-Some-calculate_numbers c =
    given_boxed number_tree (binary c.args.operator (number_tree c.args.x) (number_tree c.args.y)) c.in-Some-calculate_numbers.n c.boxed_number.result c.in-Some-calculate_numbers.ensures c.boxed_number.ensures
