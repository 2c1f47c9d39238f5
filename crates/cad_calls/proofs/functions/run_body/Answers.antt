use Rattle.cad_function_sources.specs.Sources.{piece_of}
use Rattle.cad_calls.proofs.Runs.{body_err, body_ok}
use Rattle.cad_calls.proofs.functions.run_body.Goals as goal

pub returns-in-Ok : goal.returns-in-Ok
returns-in-Ok g c =
    body_ok (g.C.Callees.front c.args.callees.now) (g.C.Callees.calls c.args.callees.now) c.args.turns (piece_of c.args.piece) c.in-Ok.flow c.args.state.now c.run_flow.new.state c.value_of_flow.result c.in-Ok.ensures (c.value_of_flow.ensures (piece_of c.args.piece).function.result c.gives_void.ensures)

pub returns-in-Err : goal.returns-in-Err
returns-in-Err g c =
    body_err (g.C.Callees.front c.args.callees.now) (g.C.Callees.calls c.args.callees.now) c.args.turns (piece_of c.args.piece) c.args.state.now c.in-Err.stop c.in-Err.ensures
