use Rattle.cad_evaluation.specs.Storage.{stored_reference}
use Rattle.cad_state.specs.Views.{state_over}
use Rattle.cad_storage.proofs.StorageLaws.{there_stops}
use Rattle.cad_storage.proofs.TypeLaws.{typed_by_test}
use Rattle.cad_storage.specs.Code.{at_stored, referred, typed}
use Rattle.cad_syntax.specs.Types.{pure_type}
use Rattle.cad_world.specs.Labels.{stored_slot}
use Rattle.cad_world.specs.State.{give}
use Rattle.cad_world.specs.Trees.{wrapped}
use Rattle.cad_storage.proofs.borrows.refer.Goals as goal

pub returns-in-Err : goal.returns-in-Err
returns-in-Err c = λ w ready.
    let s = state_over w c.args.state.now in
    let a = c.args.address in
    let n = c.args.name.now in
    let type = pure_type c.args.borrowed.now in
    let m = at_stored (typed type (referred a n c.args.own.now type)) a n in
    let p = give (wrapped (stored_reference a n c.args.own.now type)) in
    let steps = typed_by_test type p (stored_slot s a.0 n) s in
    there_stops m p type a n s c.in-Err.stop steps (c.in-Err.ensures w ready)
