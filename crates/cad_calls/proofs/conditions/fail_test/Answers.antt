use Rattle.std.proofs.Common.{option_map}
use Rattle.cad_declarations.specs.Views.{term_of}
use Rattle.cad_calls.proofs.Laws.{failed_err, failed_ok}
use Rattle.cad_calls.proofs.conditions.fail_test.Goals as goal

pub returns-in-Ok : goal.returns-in-Ok
returns-in-Ok g c =
    failed_ok (g.C.Callees.front c.args.callees.now) (g.C.Callees.calls c.args.callees.now) (option_map term_of c.args.message.now) c.args.state.now c.evaluate_message.new.state c.in-Ok.ensures

pub returns-in-Err : goal.returns-in-Err
returns-in-Err g c =
    failed_err (g.C.Callees.front c.args.callees.now) (g.C.Callees.calls c.args.callees.now) (option_map term_of c.args.message.now) c.args.state.now c.in-Err.stop c.in-Err.ensures
