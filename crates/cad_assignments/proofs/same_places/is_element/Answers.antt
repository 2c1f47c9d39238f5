use Rattle.std.proofs.Common.{ap, sym, ◌∙◌}
use Rattle.cad_evaluation.specs.Changing.{same_location}
use Rattle.cad_num.specs.Numbers.{value_of}
use Rattle.cad_state.specs.Views.{state_over}
use Rattle.cad_state.proofs.Finding.{find_same}
use Rattle.cad_world.specs.Locations.{element}
use Rattle.cad_world.specs.State.{ok}
use Rattle.cad_assignments.specs.Code.Changes.{same_asked, same_node_asked}
use Rattle.cad_locations.specs.Views.{location_of}
use Rattle.cad_assignments.proofs.Swaps.{element_same}
use Rattle.cad_assignments.proofs.same_places.is_element.Goals as goal

pub returns-else-not-is_same_index : goal.returns-else-not-is_same_index
returns-else-not-is_same_index c =
    let x = element c.args.label (value_of c.args.n.now) in
    find_same (λ b. b) (same_asked x (location_of c.args.location.now)) (same_node_asked c.args.label c.in-Element.other) c.args.state.now c.are_of_one_node.new.state c.are_of_one_node.result
    (λ accounts ready.
    let s = state_over accounts c.args.state.now in
    ap (λ b. ok b s) (ap (λ y. same_location s x (location_of y)) c.in-Element.is
    ∙ element_same c.args.label (value_of c.args.n.now) c.in-Element.other (value_of c.in-Element.m) s (sym c.is_same_index.ensures ∙ c.if-not-is_same_index.false))) c.are_of_one_node.ensures
