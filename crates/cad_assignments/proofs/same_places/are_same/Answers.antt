use Rattle.std.proofs.Common.{ap, sym, ◌∙◌}
use Rattle.cad_evaluation.specs.Changing.{same_location}
use Rattle.cad_num.specs.Numbers.{value_of}
use Rattle.cad_values.specs.Values.{pure_value}
use Rattle.cad_state.specs.Views.{state_over}
use Rattle.cad_world.specs.Locations.{part, element, entry}
use Rattle.cad_world.specs.State.{ok}
use Rattle.cad_assignments.specs.Code.Changes.{same_asked}
use Rattle.cad_locations.specs.Views.{location_of}
use Rattle.cad_locations.proofs.Looks.{at_that}
use Rattle.cad_assignments.proofs.same_places.are_same.Goals as goal

pub returns-in-Variable : goal.returns-in-Variable
returns-in-Variable c = λ accounts ready.
    let s = state_over accounts c.args.state.now in
    ap (λ b. ok b s) (ap (λ x. same_location s (location_of x) (location_of c.args.second.now)) c.in-Variable.is ∙ sym (c.is_variable.ensures s))

pub returns-in-Part : goal.returns-in-Part
returns-in-Part c =
    at_that (λ b. b) (λ x. same_asked x (location_of c.args.second.now)) _ (part c.in-Part.label c.in-Part.i) c.args.state.now c.is_part.new.state c.is_part.result (ap location_of c.in-Part.is) c.is_part.ensures

pub returns-in-Element : goal.returns-in-Element
returns-in-Element c =
    at_that (λ b. b) (λ x. same_asked x (location_of c.args.second.now)) _ (element c.in-Element.label (value_of c.in-Element.n)) c.args.state.now c.is_element.new.state c.is_element.result (ap location_of c.in-Element.is) c.is_element.ensures

pub returns-in-Entry : goal.returns-in-Entry
returns-in-Entry c =
    at_that (λ b. b) (λ x. same_asked x (location_of c.args.second.now)) _ (entry c.in-Entry.label (pure_value c.in-Entry.key)) c.args.state.now c.is_entry.new.state c.is_entry.result (ap location_of c.in-Entry.is) c.is_entry.ensures
