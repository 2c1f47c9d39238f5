use Rattle.cad_rows.specs.Places.{pure_slot}
use Rattle.cad_state.specs.Views.{state_over}
use Rattle.cad_storage.proofs.Steps.{in_place}
use Rattle.cad_storage.specs.Code.{slot_type}
use Rattle.cad_syntax.specs.Types.{pure_type}
use Rattle.cad_world.specs.Labels.{stored_slot}
use Rattle.std.proofs.Common.{option_map}
use Rattle.cad_storage.proofs.types.settled_type.Goals as goal

pub returns-in-Ok : goal.returns-in-Ok
returns-in-Ok c = λ w ready.
    let s = state_over w c.args.state.now in
    in_place (option_map pure_type) slot_type (pure_slot c.in-Ok.slot) (stored_slot s c.args.address.0 c.args.name.now) s s c.slot_type.result (c.in-Ok.ensures w) (c.slot_type.ensures w ready)
