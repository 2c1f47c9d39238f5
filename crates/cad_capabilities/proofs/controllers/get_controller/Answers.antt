use Rattle.std.specs.Prelude.{option_and_then}
use Rattle.cad_capabilities.proofs.Acts.{carries_with}
use Rattle.cad_capabilities.specs.Code.{found_under}
use Rattle.cad_evaluation.specs.Arguments.{argument}
use Rattle.cad_evaluation.specs.Numbers.{number_in}
use Rattle.cad_rows.specs.Views.{pure_row, pure_tree}
use Rattle.cad_capabilities.proofs.controllers.get_controller.Goals as goal

pub returns-in-Some : goal.returns-in-Some
returns-in-Some c =
    carries_with pure_tree (λ n. found_under c.args.address n.magnitude) (option_and_then number_in (argument 0 (pure_row c.args.row.now))) c.in-Some.n c.args.state.now c.args.state.now c.find_numbered.result
    c.in-Some.ensures c.find_numbered.ensures
