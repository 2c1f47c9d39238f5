use Rattle.cad_state.specs.Views.{state_over}
use Rattle.cad_storage.proofs.Steps.{ends, goes_on}
use Rattle.cad_storage.proofs.TypeLaws.{there_by_own}
use Rattle.cad_storage.specs.Code.{at_stored, passed, slot_type, there_as}
use Rattle.cad_syntax.specs.Types.{pure_type}
use Rattle.cad_world.specs.Labels.{stored_slot}
use Rattle.std.proofs.Common.{Bool, option_map}
use Rattle.cad_storage.proofs.typed.is_there.Goals as goal

pub returns-in-Ok : goal.returns-in-Ok
returns-in-Ok c = λ w ready.
    let s = state_over w c.args.state.now in
    let slot = stored_slot s c.args.address.0 c.args.name.now in
    let type = pure_type c.args.wanted.now in
    let y = state_over w c.stored_type.new.state in
    goes_on (option_map pure_type) (λ (is : Bool). is) (at_stored (there_as type) c.args.address c.args.name.now) (at_stored slot_type c.args.address c.args.name.now) (λ o. passed o type) c.in-Ok.own s y y c.passes.result
    (there_by_own type slot s) (c.in-Ok.ensures w ready) (c.passes.ensures w)

pub returns-in-Err : goal.returns-in-Err
returns-in-Err c = λ w ready.
    let s = state_over w c.args.state.now in
    let slot = stored_slot s c.args.address.0 c.args.name.now in
    let type = pure_type c.args.wanted.now in
    ends (at_stored (there_as type) c.args.address c.args.name.now) (at_stored slot_type c.args.address c.args.name.now) (λ o. passed o type) s c.in-Err.stop (there_by_own type slot s) (c.in-Err.ensures w ready)
