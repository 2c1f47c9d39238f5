use Rattle.cad_state.specs.Views.{state_over}
use Rattle.cad_storage.proofs.Steps.{stays_then}
use Rattle.cad_storage.proofs.TypeLaws.{settling_stays, settling_stops}
use Rattle.cad_storage.specs.Code.{at_stored, slot_type}
use Rattle.cad_syntax.specs.Types.{pure_type}
use Rattle.cad_world.specs.Labels.{stored_slot}
use Rattle.std.proofs.Common.{option_map}
use Rattle.cad_storage.proofs.types.stored_type.Goals as goal

pub returns-in-Ok : goal.returns-in-Ok
returns-in-Ok c = let x = c.args.state.now in
    let y = c.settle.new.state in
    stays_then (option_map pure_type) (at_stored slot_type c.args.address c.args.name.now) x y y c.settled_type.result
    (λ w ready. settling_stays (stored_slot (state_over w x) c.args.address.0 c.args.name.now) (state_over w x) (state_over w y) (c.in-Ok.ensures w ready)) c.settled_type.ensures

pub returns-in-Err : goal.returns-in-Err
returns-in-Err c = λ w ready.
    let s = state_over w c.args.state.now in
    settling_stops (stored_slot s c.args.address.0 c.args.name.now) s c.in-Err.stop (c.in-Err.ensures w ready)
