use Rattle.cad_function_sources.specs.Sources.{piece_of}
use Rattle.cad_declarations.specs.Views.{function_of}
use Rattle.cad_calls.proofs.Runs.{flow_err, flow_ok}
use Rattle.cad_calls.proofs.functions.run_flow.Goals as goal

pub returns-in-Ok : goal.returns-in-Ok
returns-in-Ok g c =
    flow_ok (g.C.Callees.front c.args.callees.now) (g.C.Callees.calls c.args.callees.now) c.args.turns (piece_of c.args.piece).within c.args.piece.initializes (function_of c.args.piece.function.now) c.args.state.now c.move_into.new.state c.exec_body.new.state c.exec_body.result c.in-Ok.ensures c.exec_body.ensures

pub returns-in-Err : goal.returns-in-Err
returns-in-Err g c =
    flow_err (g.C.Callees.front c.args.callees.now) (g.C.Callees.calls c.args.callees.now) c.args.turns (piece_of c.args.piece).within (piece_of c.args.piece).function c.args.state.now c.in-Err.stop c.in-Err.ensures
