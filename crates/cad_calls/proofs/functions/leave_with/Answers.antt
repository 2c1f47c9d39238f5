use Rattle.std.proofs.Common.{refl}
use Rattle.cad_execution.specs.Passed.{tree_in}
use Rattle.cad_calls.proofs.Runs.{leave_err, leave_ok}
use Rattle.cad_calls.proofs.functions.leave_with.Goals as goal

pub returns-in-Ok : goal.returns-in-Ok
returns-in-Ok c =
    leave_ok (tree_in c.args.value) c.args.value c.args.state.now c.leave.new.state refl c.in-Ok.ensures

pub returns-in-Err : goal.returns-in-Err
returns-in-Err c =
    leave_err (tree_in c.args.value) c.args.state.now c.in-Err.stop c.in-Err.ensures
