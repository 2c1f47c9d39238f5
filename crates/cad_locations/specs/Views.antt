-- What locations and what stands there are, as the definition has them.
use Rattle.cad_num.specs.Numbers.{value_of}
use Rattle.cad_values.specs.Values.{pure_value}
use Rattle.cad_world.specs.Locations as l
use Rattle.cad_world.specs.Rows.{Tree}
use Rattle.cad_world.specs.State.{Action, ◌>>◌, done}
use Rattle.cad_rows.specs.Views.{pure_shape, pure_row}
use Rattle.cad_locations.specs.declared.location.Location.{Location}
use Rattle.cad_locations.specs.declared.location.Location.TheVariants as at
use Rattle.cad_locations.specs.declared.reading.Seen.{Seen}

abbrev pub location_of : Location → l.Location
location_of (at.Variable x) = l.variable x
location_of (at.Contract id) = l.contract id
location_of (at.Receiver p) = l.receiver p
location_of (at.Part p i) = l.part p i
location_of (at.Element p n) = l.element p (value_of n)
location_of (at.Entry p key) = l.entry p (pure_value key)

-- a location is looked up, and nothing more
abbrev pub looked_up : l.Location → Action (Unit {0})
looked_up x = l.slot_of x >> done

-- a value that is lent where it stands
abbrev pub tree_seen : Seen → Tree
tree_seen x = record { optionals = x.optionals; shape = pure_shape x.shape.now; parts = pure_row x.parts.now }
