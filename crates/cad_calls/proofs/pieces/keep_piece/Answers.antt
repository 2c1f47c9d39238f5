use Rattle.cad_function_sources.specs.Sources.{piece_of}
use Rattle.cad_declarations.specs.Views.{function_of}
use Rattle.cad_calls.proofs.Laws.{before_err, before_ok}
use Rattle.cad_calls.proofs.pieces.keep_piece.Goals as goal

pub returns-in-Ok : goal.returns-in-Ok
returns-in-Ok g c =
    before_ok (g.C.Callees.front c.args.callees.now) (g.C.Callees.calls c.args.callees.now) (piece_of c.args.piece).within c.args.piece.initializes (function_of c.args.piece.function.now) c.args.state.now c.move_into.new.state c.keep_function.new.state c.keep_function.result c.in-Ok.ensures c.keep_function.ensures

pub returns-in-Err : goal.returns-in-Err
returns-in-Err g c =
    before_err (g.C.Callees.front c.args.callees.now) (g.C.Callees.calls c.args.callees.now) (piece_of c.args.piece).within (piece_of c.args.piece).function c.args.state.now c.in-Err.stop c.in-Err.ensures
