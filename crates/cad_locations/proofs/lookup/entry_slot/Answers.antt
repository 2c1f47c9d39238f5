use Rattle.cad_rows.specs.Ways.{pure_node}
use Rattle.cad_values.specs.Values.{pure_value}
use Rattle.cad_world.specs.Locations.{entry_of_key}
use Rattle.cad_locations.specs.Code.Slots.{slot_seen}
use Rattle.cad_locations.proofs.Looks.{known_gives}
use Rattle.cad_locations.proofs.lookup.entry_slot.Goals as goal

pub returns-in-Some : goal.returns-in-Some
returns-in-Some c = known_gives slot_seen c.args.label (λ f. entry_of_key (pure_value c.args.key.now) f.tree.shape f.tree.parts) (pure_node c.in-Some.node) c.args.state.now c.entry_in.result c.in-Some.ensures c.entry_in.ensures
