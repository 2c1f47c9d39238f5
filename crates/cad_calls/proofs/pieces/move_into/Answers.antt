use Rattle.cad_function_sources.specs.Sources.{piece_of}
use Rattle.cad_calls.proofs.Laws.{moved_as}
use Rattle.cad_calls.proofs.pieces.move_into.Goals as goal

pub returns-in-Ok : goal.returns-in-Ok
returns-in-Ok c =
    moved_as c.in-Ok.within (piece_of c.args.piece).within c.args.state.now c.move_to.new.state c.move_to.result c.in-Ok.ensures c.move_to.ensures
