use Rattle.std.proofs.Common.{ap}
use Rattle.cad_evaluation.specs.Changing.{fill as filled}
use Rattle.cad_num.specs.Numbers.{value_of}
use Rattle.cad_outcomes.specs.Outcomes.{no_value}
use Rattle.cad_rows.specs.Views.{pure_tree}
use Rattle.cad_state.proofs.Finding.{find_any}
use Rattle.cad_values.specs.Values.{pure_value}
use Rattle.cad_world.specs.Locations.{variable, part, element, entry}
use Rattle.cad_locations.specs.Views.{location_of}
use Rattle.cad_locations.proofs.Looks.{at_that}
use Rattle.cad_assignments.proofs.filling.fill.Goals as goal

pub returns-in-Variable : goal.returns-in-Variable
returns-in-Variable c =
    let t = pure_tree c.args.tree in
    at_that no_value (λ x. filled x t) _ (variable c.in-Variable.x) c.args.state.now c.fill_variable.new.self c.fill_variable.result (ap location_of c.in-Variable.is)
    (find_any no_value (filled (variable c.in-Variable.x) t) c.args.state.now c.fill_variable.new.self c.fill_variable.result c.fill_variable.ensures)

pub returns-in-Part : goal.returns-in-Part
returns-in-Part c =
    at_that no_value (λ x. filled x (pure_tree c.args.tree)) _ (part c.in-Part.label c.in-Part.i) c.args.state.now c.fill_part.new.state c.fill_part.result (ap location_of c.in-Part.is) c.fill_part.ensures

pub returns-in-Element : goal.returns-in-Element
returns-in-Element c =
    at_that no_value (λ x. filled x (pure_tree c.args.tree)) _ (element c.in-Element.label (value_of c.in-Element.n)) c.args.state.now c.fill_element.new.state c.fill_element.result (ap location_of c.in-Element.is) c.fill_element.ensures

pub returns-in-Entry : goal.returns-in-Entry
returns-in-Entry c =
    at_that no_value (λ x. filled x (pure_tree c.args.tree)) _ (entry c.in-Entry.label (pure_value c.in-Entry.key)) c.args.state.now c.fill_entry.new.state c.fill_entry.result (ap location_of c.in-Entry.is) c.fill_entry.ensures
