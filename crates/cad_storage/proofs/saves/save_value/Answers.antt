use Rattle.cad_evaluation.specs.Storage.{saved}
use Rattle.cad_outcomes.specs.Outcomes.{no_value}
use Rattle.cad_rows.specs.Views.{pure_tree}
use Rattle.cad_state.specs.Views.{state_over}
use Rattle.cad_storage.proofs.Steps.{ends, goes_on}
use Rattle.cad_storage.proofs.StorageLaws.{saved_by_steps}
use Rattle.cad_storage.specs.Code.{at_stored, paid_and_stored, vacant}
use Rattle.cad_world.specs.Labels.{stored_slot}
use Rattle.cad_storage.proofs.saves.save_value.Goals as goal

pub returns-in-Ok : goal.returns-in-Ok
returns-in-Ok c = λ w.
    let s = state_over w c.args.state.now in
    let a = c.args.address in
    let n = c.args.name in
    let t = pure_tree c.args.tree in
    goes_on no_value pure_tree (at_stored (saved a n t) a n) (at_stored vacant a n) (λ _. paid_and_stored a n t) tt s s (state_over w c.pay_and_put.new.state) c.pay_and_put.result
    (saved_by_steps a n t (stored_slot s a.0 n) s) (c.in-Ok.ensures w) (c.pay_and_put.ensures w)

pub returns-in-Err : goal.returns-in-Err
returns-in-Err c = λ w.
    let s = state_over w c.args.state.now in
    let a = c.args.address in
    let n = c.args.name in
    let t = pure_tree c.args.tree in
    ends (at_stored (saved a n t) a n) (at_stored vacant a n) (λ _. paid_and_stored a n t) s c.in-Err.stop (saved_by_steps a n t (stored_slot s a.0 n) s) (c.in-Err.ensures w)
