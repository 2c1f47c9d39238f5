use Rattle.std.proofs.Common.{ap}
use Rattle.cad_declarations.specs.Views.{tables_of}
use Rattle.cad_pieces.specs.Views.{piece_body_of, piece_of, result_of}
use Rattle.cad_check.proofs.Refused.{ill_typed_told, piece_told}
use Rattle.cad_check.proofs.refusals.piece_stop.Goals as goal

pub returns-in-Ok : goal.returns-in-Ok
returns-in-Ok c =
    piece_told (tables_of c.args.tables.now) c.args.phase c.args.piece.now.inside (piece_of c.args.piece.now).typing (piece_body_of c.in-Ok.body) c.body_stop.result
    (ap result_of c.in-Ok.is) c.body_stop.ensures

pub returns-in-Err : goal.returns-in-Err
returns-in-Err c =
    ill_typed_told (tables_of c.args.tables.now) c.args.phase c.args.piece.now.inside (piece_of c.args.piece.now).typing _ (ap result_of c.in-Err.is)
