use Rattle.cad_outcomes.specs.Outcomes.{no_value}
use Rattle.cad_rows.specs.Views.{pure_tree}
use Rattle.cad_state.specs.Views.{state_over}
use Rattle.cad_storage.proofs.Steps.{ends, goes_on}
use Rattle.cad_storage.proofs.StorageLaws.{copied_by_steps}
use Rattle.cad_storage.specs.Code.{at_stored, copied_if, copyable, of_full, paid_and_copied}
use Rattle.cad_storage.proofs.copies.check_and_copy.Goals as goal

pub returns-in-Ok : goal.returns-in-Ok
returns-in-Ok c = λ w.
    let s = state_over w c.args.state.now in
    let a = c.args.address in
    let n = c.args.name.now in
    goes_on no_value pure_tree (at_stored (of_full copied_if) a n) (at_stored copyable a n) (λ _. at_stored (of_full paid_and_copied) a n) tt s s (state_over w c.pay_and_copy.new.state) c.pay_and_copy.result
    (copied_by_steps a n s) (c.in-Ok.ensures w) (c.pay_and_copy.ensures w)

pub returns-in-Err : goal.returns-in-Err
returns-in-Err c = λ w.
    let s = state_over w c.args.state.now in
    let a = c.args.address in
    let n = c.args.name.now in
    ends (at_stored (of_full copied_if) a n) (at_stored copyable a n) (λ _. at_stored (of_full paid_and_copied) a n) s c.in-Err.stop (copied_by_steps a n s) (c.in-Err.ensures w)
