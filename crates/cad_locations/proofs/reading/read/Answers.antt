use Rattle.std.proofs.Common.{option_map}
use Rattle.cad_world.specs.Locations.{read_slot}
use Rattle.cad_locations.specs.Code.Slots.{slot_seen}
use Rattle.cad_locations.specs.Views.{location_of, tree_seen}
use Rattle.cad_locations.proofs.Settled.{no_place}
use Rattle.cad_locations.proofs.reading.read.Goals as goal

pub returns-in-Err : goal.returns-in-Err
returns-in-Err c = no_place slot_seen (option_map tree_seen) (location_of c.args.location.now) (read_slot (location_of c.args.location.now)) c.args.state.now c.args.state.now c.in-Err.stop c.in-Err.ensures
