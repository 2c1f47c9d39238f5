use Rattle.std.proofs.Common.{refl}
use Rattle.cad_execution.specs.Passed.{tree_in}
use Rattle.cad_calls.proofs.Telling.{out_err, out_ok}
use Rattle.cad_calls.proofs.events.look_out_with.Goals as goal

pub returns-in-Ok : goal.returns-in-Ok
returns-in-Ok c =
    out_ok (tree_in c.args.value) c.args.value c.args.state.now c.look_out.new.state refl c.in-Ok.ensures

pub returns-in-Err : goal.returns-in-Err
returns-in-Err c =
    out_err (tree_in c.args.value) c.args.state.now c.in-Err.stop c.in-Err.ensures
