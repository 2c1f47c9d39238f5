use Rattle.cad_outcomes.specs.Outcomes.{no_value}
use Rattle.cad_world.specs.State.{done}
use Rattle.cad_locations.specs.Code.Slots.{slot_seen}
use Rattle.cad_locations.specs.Views.{location_of}
use Rattle.cad_locations.proofs.Settled.{no_place}
use Rattle.cad_locations.proofs.reading.look.Goals as goal

pub returns-in-Err : goal.returns-in-Err
returns-in-Err c = no_place slot_seen no_value (location_of c.args.location.now) (λ _. done) c.args.state.now c.args.state.now c.in-Err.stop c.in-Err.ensures
