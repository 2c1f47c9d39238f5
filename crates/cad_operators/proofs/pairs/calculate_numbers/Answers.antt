use Rattle.std.proofs.Common.{sym, ◌∙◌}
use Rattle.cad_evaluation.specs.Numbers.{number_tree}
use Rattle.cad_operators.proofs.Charges.{calculates_number}
use Rattle.cad_operators.proofs.pairs.calculate_numbers.Goals as goal

pub returns-in-Some : goal.returns-in-Some
returns-in-Some c =
    calculates_number c.args.operation c.in-Some.known (number_tree c.args.x) (number_tree c.args.y) c.operated.result (sym c.calculation.ensures ∙ c.in-Some.is) c.operated.ensures
