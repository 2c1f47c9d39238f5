use Rattle.std.proofs.Common.{option_map}
use Rattle.cad_declarations.specs.Views.{term_of}
use Rattle.cad_calls.proofs.Laws.{test_err, test_ok}
use Rattle.cad_calls.proofs.conditions.test.Goals as goal

pub returns-in-Ok : goal.returns-in-Ok
returns-in-Ok g c at =
    test_ok (g.C.Callees.front c.args.callees.now) (g.C.Callees.calls c.args.callees.now) at (term_of c.args.tested.now) (option_map term_of c.args.message.now) c.in-Ok.value c.args.state.now c.test_value.new.state c.judge.new.state c.judge.result (g.met.C.Callees.keeps c.args.callees.now) c.in-Ok.ensures c.judge.ensures

pub returns-in-Err : goal.returns-in-Err
returns-in-Err g c at =
    test_err (g.C.Callees.front c.args.callees.now) (g.C.Callees.calls c.args.callees.now) at (term_of c.args.tested.now) (option_map term_of c.args.message.now) c.args.state.now c.in-Err.stop c.in-Err.ensures
