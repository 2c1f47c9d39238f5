use Rattle.std.proofs.Common.{ap, ◌∙◌}
use Rattle.cad_evaluation.specs.Changing.{same_location}
use Rattle.cad_state.specs.Views.{state_over}
use Rattle.cad_state.proofs.Finding.{find_same}
use Rattle.cad_world.specs.Locations.{part}
use Rattle.cad_world.specs.State.{ok}
use Rattle.cad_assignments.specs.Code.Changes.{same_asked, same_node_asked}
use Rattle.cad_locations.specs.Views.{location_of}
use Rattle.cad_assignments.proofs.Swaps.{part_same}
use Rattle.cad_assignments.proofs.same_places.is_part.Goals as goal

pub returns-else-i-j : goal.returns-else-i-j
returns-else-i-j c =
    let x = part c.args.label c.args.i in
    find_same (λ b. b) (same_asked x (location_of c.args.location.now)) (same_node_asked c.args.label c.in-Part.other) c.args.state.now c.are_of_one_node.new.state c.are_of_one_node.result
    (λ accounts ready.
    let s = state_over accounts c.args.state.now in
    ap (λ b. ok b s) (ap (λ y. same_location s x (location_of y)) c.in-Part.is ∙ part_same c.args.label c.args.i c.in-Part.other c.in-Part.j s c.if-i-j.false)) c.are_of_one_node.ensures
