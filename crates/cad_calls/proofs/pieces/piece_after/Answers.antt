use Rattle.cad_function_sources.specs.Sources.{piece_of}
use Rattle.cad_calls.proofs.Laws.{after_err, after_ok}
use Rattle.cad_calls.proofs.pieces.piece_after.Goals as goal

pub returns-in-Ok : goal.returns-in-Ok
returns-in-Ok g c =
    after_ok (g.C.Callees.front c.args.callees.now) (g.C.Callees.calls c.args.callees.now) (piece_of c.args.piece).within (piece_of c.args.piece).function c.args.state.now c.move_into.new.state c.test_after.new.state c.test_after.result c.in-Ok.ensures c.test_after.ensures

pub returns-in-Err : goal.returns-in-Err
returns-in-Err g c =
    after_err (g.C.Callees.front c.args.callees.now) (g.C.Callees.calls c.args.callees.now) (piece_of c.args.piece).within (piece_of c.args.piece).function c.args.state.now c.in-Err.stop c.in-Err.ensures
