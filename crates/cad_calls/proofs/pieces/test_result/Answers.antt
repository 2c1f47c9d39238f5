use Rattle.cad_declarations.specs.Views.{function_of, variable_of}
use Rattle.cad_calls.proofs.Laws.{result_tested_err, result_tested_ok}
use Rattle.cad_calls.proofs.pieces.test_result.Goals as goal

pub returns-in-Ok : goal.returns-in-Ok
returns-in-Ok g c =
    result_tested_ok (g.C.Callees.front c.args.callees.now) (g.C.Callees.calls c.args.callees.now) (function_of c.args.function.now) (variable_of c.args.variable.now) c.args.state.now c.fill_result.new.state c.test_plain.new.state c.test_plain.result c.in-Ok.ensures c.test_plain.ensures

pub returns-in-Err : goal.returns-in-Err
returns-in-Err g c =
    result_tested_err (g.C.Callees.front c.args.callees.now) (g.C.Callees.calls c.args.callees.now) (function_of c.args.function.now) (variable_of c.args.variable.now) c.args.state.now c.in-Err.stop c.in-Err.ensures
