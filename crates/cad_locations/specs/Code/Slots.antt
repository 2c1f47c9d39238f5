-- What stands in a place that is lent.
use Rattle.cad_world.specs.Locations.{Location, variable, contract, stored, receiver, part, element, entry, with_found}
use Rattle.cad_world.specs.Rows.{Slot, out, free, full}
use Rattle.cad_world.specs.State.{Action, done}
use Rattle.cad_locations.specs.Views.{tree_seen}
use Rattle.cad_locations.specs.declared.lookup.SeenSlot.{SeenSlot}
use Rattle.cad_locations.specs.declared.lookup.SeenSlot.TheVariants as s

abbrev pub slot_seen : SeenSlot → Slot
slot_seen s.Out = out
slot_seen s.Free = free
slot_seen (s.Full x) = full (tree_seen x)

-- the node of a location is looked up
abbrev pub node_there : Location → Action (Unit {0})
node_there (receiver l) = with_found l (λ f. done)
node_there (part l i) = with_found l (λ f. done)
node_there (element l i) = with_found l (λ f. done)
node_there (entry l key) = with_found l (λ f. done)
node_there (variable x) = done
node_there (contract id) = done
node_there (stored a n) = done
