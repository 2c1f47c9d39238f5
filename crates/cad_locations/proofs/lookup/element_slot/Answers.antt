use Rattle.cad_num.specs.Numbers.{value_of}
use Rattle.cad_rows.specs.Ways.{pure_node}
use Rattle.cad_world.specs.Locations.{element_of}
use Rattle.cad_locations.specs.Code.Slots.{slot_seen}
use Rattle.cad_locations.proofs.Looks.{known_gives}
use Rattle.cad_locations.proofs.lookup.element_slot.Goals as goal

pub returns-in-Some : goal.returns-in-Some
returns-in-Some c = known_gives slot_seen c.args.label (λ f. element_of (value_of c.args.n.now) f.tree.shape f.tree.parts) (pure_node c.in-Some.node) c.args.state.now c.element_in.result c.in-Some.ensures c.element_in.ensures
