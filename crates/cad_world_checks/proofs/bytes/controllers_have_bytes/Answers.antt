use Rattle.std.proofs.Common.{arith}
use Rattle.cad_fits.proofs.Each.{not_so, is_so}
use Rattle.cad_state.specs.Views.{controller_of}
use Rattle.cad_world_checks.specs.Checks.{BorrowedHasBytes}
use Rattle.cad_world_checks.proofs.AllOf.{one_fails, one_more, all_hold}
use Rattle.cad_world_checks.proofs.bytes.controllers_have_bytes.Goals as goal

pub returns-then-not-branch : goal.returns-then-not-branch
returns-then-not-branch c =
    one_fails BorrowedHasBytes controller_of c.args.controllers.now c.loop-controller.controller-index c.controller-item.result (omega arith) c.controller-item.is (not_so c.in_ok-controller_has_bytes.field-0 c.in_ok-controller_has_bytes.ensures c.if-not-branch.true) c.loop-controller.invariant

pub loop-controller-preserved : goal.loop-controller-preserved
loop-controller-preserved c = one_more BorrowedHasBytes controller_of c.args.controllers.now c.loop-controller.controller-index c.controller-item.result (omega arith) c.controller-item.is (is_so c.in_ok-controller_has_bytes.field-0 c.in_ok-controller_has_bytes.ensures c.if-not-branch.false) c.loop-controller.invariant

pub returns : goal.returns
returns c = all_hold BorrowedHasBytes controller_of c.args.controllers.now c.loop-controller.controller-index (omega arith) c.loop-controller.invariant
