use Rattle.cad_evaluation.specs.Storage.{loaded}
use Rattle.cad_rows.specs.Views.{pure_tree}
use Rattle.cad_state.specs.Views.{state_over}
use Rattle.cad_storage.proofs.StorageLaws.{is_there_so, loaded_so, there_stops, typed_by_steps}
use Rattle.cad_storage.specs.Code.{at_stored, of_full, paid_and_taken}
use Rattle.cad_syntax.specs.Types.{pure_type}
use Rattle.cad_world.specs.Labels.{stored_slot}
use Rattle.std.proofs.Common.{◌∙◌}
use Rattle.cad_storage.proofs.loads.load_at.Goals as goal

pub returns-in-Ok-true : goal.returns-in-Ok-true
returns-in-Ok-true c = λ w ready.
    let s = state_over w c.args.state.now in
    let a = c.args.address in
    let n = c.args.name.now in
    let type = pure_type c.args.wanted.now in
    let m = at_stored (loaded a n type) a n in
    let p = at_stored (of_full (paid_and_taken a n)) a n in
    let steps = loaded_so type a n (stored_slot s a.0 n) s ∙ typed_by_steps type (paid_and_taken a n) a n s in
    is_there_so pure_tree m p type a n c.in-Ok-true.field-0 s (state_over w c.is_there.new.state) (state_over w c.pay_and_take.new.state) c.pay_and_take.result c.in-Ok-true.field-0-test steps (c.in-Ok-true.ensures w ready) (c.pay_and_take.ensures w)

pub returns-in-Err : goal.returns-in-Err
returns-in-Err c = λ w ready.
    let s = state_over w c.args.state.now in
    let a = c.args.address in
    let n = c.args.name.now in
    let type = pure_type c.args.wanted.now in
    let m = at_stored (loaded a n type) a n in
    let p = at_stored (of_full (paid_and_taken a n)) a n in
    let steps = loaded_so type a n (stored_slot s a.0 n) s ∙ typed_by_steps type (paid_and_taken a n) a n s in
    there_stops m p type a n s c.in-Err.stop steps (c.in-Err.ensures w ready)
