use Rattle.std.proofs.Common.{ap, map}
use Rattle.cad_calls.specs.Pieces.{maybe_piece}
use Rattle.cad_function_sources.specs.Sources.{piece_of}
use Rattle.cad_calls.proofs.Laws.{before_first, before_none, before_stops}
use Rattle.cad_calls.proofs.pieces.keep_before_all.Goals as goal

pub returns-in-Ok : goal.returns-in-Ok
returns-in-Ok g c =
    before_first (g.C.Callees.front c.args.callees.now) (g.C.Callees.calls c.args.callees.now) (maybe_piece c.args.own) (piece_of c.in-Some.piece) (map piece_of c.args.others.now) c.args.state.now c.keep_piece.new.state c.keep_others.new.state c.keep_others.result (g.met.C.Callees.keeps c.args.callees.now) (ap maybe_piece c.in-Some.is) c.in-Ok.ensures c.keep_others.ensures

pub returns-in-Err : goal.returns-in-Err
returns-in-Err g c =
    before_stops (g.C.Callees.front c.args.callees.now) (g.C.Callees.calls c.args.callees.now) (maybe_piece c.args.own) (piece_of c.in-Some.piece) (map piece_of c.args.others.now) c.args.state.now c.keep_piece.new.state c.in-Err.stop (ap maybe_piece c.in-Some.is) c.in-Err.ensures

pub returns-in-None : goal.returns-in-None
returns-in-None g c =
    before_none (g.C.Callees.front c.args.callees.now) (g.C.Callees.calls c.args.callees.now) (maybe_piece c.args.own) (map piece_of c.args.others.now) c.args.state.now c.keep_others-in-None.new.state c.keep_others-in-None.result (ap maybe_piece c.in-None.is) c.keep_others-in-None.ensures
