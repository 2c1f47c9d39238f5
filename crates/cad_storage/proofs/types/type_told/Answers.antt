use Rattle.cad_evaluation.specs.Storage.{type_of_stored}
use Rattle.cad_state.specs.Views.{state_over}
use Rattle.cad_storage.proofs.Steps.{ends}
use Rattle.cad_storage.proofs.TypeLaws.{type_by_own}
use Rattle.cad_storage.specs.Code.{at_stored, slot_type, told}
use Rattle.cad_world.specs.Labels.{stored_slot}
use Rattle.cad_world.specs.State.{give}
use Rattle.cad_storage.proofs.types.type_told.Goals as goal

pub returns-in-Err : goal.returns-in-Err
returns-in-Err c = λ w ready.
    let s = state_over w c.args.state.now in
    let slot = stored_slot s c.args.address.0 c.args.name.now in
    ends (at_stored type_of_stored c.args.address c.args.name.now) (at_stored slot_type c.args.address c.args.name.now) (λ o. give (told o)) s c.in-Err.stop (type_by_own slot s) (c.in-Err.ensures w ready)
