use Rattle.std.proofs.Common.{ap}
use Rattle.cad_calls.specs.Pieces.{maybe_piece}
use Rattle.cad_function_sources.specs.Sources.{piece_of}
use Rattle.cad_calls.proofs.Laws.{own_first}
use Rattle.cad_calls.proofs.pieces.own_precondition.Goals as goal

pub returns-in-Some : goal.returns-in-Some
returns-in-Some g c =
    own_first (g.C.Callees.front c.args.callees.now) (g.C.Callees.calls c.args.callees.now) (maybe_piece c.args.own) (piece_of c.in-Some.piece) c.args.state.now c.precondition.new.state c.precondition.result (ap maybe_piece c.in-Some.is) c.precondition.ensures
