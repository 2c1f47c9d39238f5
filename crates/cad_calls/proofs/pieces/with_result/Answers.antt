use Rattle.cad_declarations.specs.Views.{function_of, variable_of}
use Rattle.cad_calls.proofs.Laws.{with_result_err, with_result_ok}
use Rattle.cad_calls.proofs.pieces.with_result.Goals as goal

pub returns-in-Ok : goal.returns-in-Ok
returns-in-Ok g c =
    with_result_ok (g.C.Callees.front c.args.callees.now) (g.C.Callees.calls c.args.callees.now) (function_of c.args.function.now) (variable_of c.args.variable.now) c.args.state.now c.test_result.new.state c.end_variables.new.state c.end_variables.result c.in-Ok.ensures c.end_variables.ensures

pub returns-in-Err : goal.returns-in-Err
returns-in-Err g c =
    with_result_err (g.C.Callees.front c.args.callees.now) (g.C.Callees.calls c.args.callees.now) (function_of c.args.function.now) (variable_of c.args.variable.now) c.args.state.now c.in-Err.stop c.in-Err.ensures
