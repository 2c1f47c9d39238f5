use Rattle.std.proofs.Common.{ap}
use Rattle.cad_evaluation.specs.Changing.{assigned}
use Rattle.cad_outcomes.specs.Outcomes.{no_value}
use Rattle.cad_rows.specs.Views.{pure_tree}
use Rattle.cad_state.proofs.Finding.{find_any}
use Rattle.cad_world.specs.Locations.{variable}
use Rattle.cad_locations.specs.Views.{location_of}
use Rattle.cad_locations.proofs.Looks.{at_that}
use Rattle.cad_assignments.proofs.assigning.assign.Goals as goal

pub returns-in-Variable : goal.returns-in-Variable
returns-in-Variable c =
    let t = pure_tree c.args.tree in
    at_that no_value (λ x. assigned x t) _ (variable c.in-Variable.x) c.args.state.now c.assign_variable.new.self c.assign_variable.result (ap location_of c.in-Variable.is)
    (find_any no_value (assigned (variable c.in-Variable.x) t) c.args.state.now c.assign_variable.new.self c.assign_variable.result c.assign_variable.ensures)
