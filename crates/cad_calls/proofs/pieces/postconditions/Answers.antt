use Rattle.std.proofs.Common.{ap, map}
use Rattle.cad_calls.specs.Pieces.{maybe_piece}
use Rattle.cad_function_sources.specs.Sources.{piece_of}
use Rattle.cad_calls.proofs.Laws.{post_first, post_none, post_stops}
use Rattle.cad_calls.proofs.pieces.postconditions.Goals as goal

pub returns-in-Ok : goal.returns-in-Ok
returns-in-Ok g c =
    post_first (g.C.Callees.front c.args.callees.now) (g.C.Callees.calls c.args.callees.now) (maybe_piece c.args.own) (piece_of c.in-Some.piece) (map piece_of c.args.others.now) c.args.state.now c.postcondition.new.state c.other_postconditions.new.state c.other_postconditions.result (g.met.C.Callees.keeps c.args.callees.now) (ap maybe_piece c.in-Some.is) c.in-Ok.ensures c.other_postconditions.ensures

pub returns-in-Err : goal.returns-in-Err
returns-in-Err g c =
    post_stops (g.C.Callees.front c.args.callees.now) (g.C.Callees.calls c.args.callees.now) (maybe_piece c.args.own) (piece_of c.in-Some.piece) (map piece_of c.args.others.now) c.args.state.now c.postcondition.new.state c.in-Err.stop (ap maybe_piece c.in-Some.is) c.in-Err.ensures

pub returns-in-None : goal.returns-in-None
returns-in-None g c =
    post_none (g.C.Callees.front c.args.callees.now) (g.C.Callees.calls c.args.callees.now) (maybe_piece c.args.own) (map piece_of c.args.others.now) c.args.state.now c.other_postconditions-in-None.new.state c.other_postconditions-in-None.result (ap maybe_piece c.in-None.is) c.other_postconditions-in-None.ensures
