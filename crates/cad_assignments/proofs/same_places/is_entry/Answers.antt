use Rattle.std.proofs.Common.{ap, sym, ◌∙◌}
use Rattle.cad_evaluation.specs.Changing.{same_location}
use Rattle.cad_values.specs.Values.{pure_value}
use Rattle.cad_state.specs.Views.{state_over}
use Rattle.cad_state.proofs.Finding.{find_same}
use Rattle.cad_world.specs.Locations.{entry}
use Rattle.cad_world.specs.State.{ok}
use Rattle.cad_assignments.specs.Code.Changes.{same_asked, same_node_asked}
use Rattle.cad_locations.specs.Views.{location_of}
use Rattle.cad_assignments.proofs.Swaps.{entry_same}
use Rattle.cad_assignments.proofs.same_places.is_entry.Goals as goal

pub returns-in-Ok-true : goal.returns-in-Ok-true
returns-in-Ok-true c =
    let x = entry c.args.label (pure_value c.args.key.now) in
    find_same (λ b. b) (same_asked x (location_of c.args.location.now)) (same_node_asked c.args.label c.in-Entry.other) c.args.state.now c.are_of_one_node.new.state c.are_of_one_node.result
    (λ accounts ready.
    let s = state_over accounts c.args.state.now in
    ap (λ b. ok b s) (ap (λ y. same_location s x (location_of y)) c.in-Entry.is
    ∙ entry_same c.args.label (pure_value c.args.key.now) c.in-Entry.other (pure_value c.in-Entry.with) s (sym c.in-Ok-true.ensures ∙ c.in-Ok-true.field-0-test))) c.are_of_one_node.ensures
