use Rattle.cad_outcomes.specs.Outcomes.{no_value}
use Rattle.cad_state.proofs.Finding.{find_same}
use Rattle.cad_state.specs.Views.{state_over}
use Rattle.cad_storage.proofs.TypeLaws.{label_settles}
use Rattle.cad_storage.specs.Code.{at_stored, settled_slot}
use Rattle.cad_world.specs.Labels.{stored_slot}
use Rattle.cad_world.specs.Locations.{with_found}
use Rattle.cad_world.specs.State.{done}
use Rattle.std.proofs.Common.{sym, ◌∙◌}
use Rattle.cad_storage.proofs.types.settle.Goals as goal

pub returns-in-Ok-Some : goal.returns-in-Ok-Some
returns-in-Ok-Some c = let x = c.args.state.now in
    find_same no_value (at_stored settled_slot c.args.address c.args.name.now) (with_found c.in-Ok-Some.label (λ f. done)) x c.find_node.new.state c.find_node.result
    (λ w ready. label_settles (stored_slot (state_over w x) c.args.address.0 c.args.name.now) c.in-Ok-Some.label (state_over w x) (sym c.in-Ok-Some.field-0-is ∙ c.in-Ok-Some.ensures w))
    c.find_node.ensures
