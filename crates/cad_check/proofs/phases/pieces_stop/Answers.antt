use Rattle.std.proofs.Common.{arith, ◌+◌, subst}
use Rattle.cad_declarations.specs.Views.{tables_of}
use Rattle.cad_pieces.specs.Views.{piece_of, pieces_of}
use Rattle.cad_check.specs.Answers.{Tells, piece_refused}
use Rattle.cad_check.proofs.Ordered.{at_end, turn_refused, turn_right}
use Rattle.cad_check.proofs.phases.pieces_stop.Goals as goal

pub loop-piece-init : goal.loop-piece-init
loop-piece-init c = λ stop h. h

pub returns-in-Some : goal.returns-in-Some
returns-in-Some c =
    turn_refused (piece_refused (tables_of c.args.tables.now) c.args.phase) piece_of c.args.pieces.now c.loop-piece.piece-index c.piece-item.result
    (pieces_of c.args.pieces.now) c.in-Some.stop (omega arith) c.piece-item.is (subst (Tells (piece_refused (tables_of c.args.tables.now) c.args.phase (piece_of c.piece-item.result))) c.in-Some.is c.in_ok-stop.ensures) c.loop-piece.invariant

pub loop-piece-preserved : goal.loop-piece-preserved
loop-piece-preserved c =
    turn_right (piece_refused (tables_of c.args.tables.now) c.args.phase) piece_of c.args.pieces.now c.loop-piece.piece-index c.piece-item.result
    (pieces_of c.args.pieces.now) (omega arith) c.piece-item.is (subst (Tells (piece_refused (tables_of c.args.tables.now) c.args.phase (piece_of c.piece-item.result))) c.in-None.is c.in_ok-stop.ensures) c.loop-piece.invariant

pub returns : goal.returns
returns c =
    at_end (piece_refused (tables_of c.args.tables.now) c.args.phase) piece_of c.args.pieces.now c.loop-piece.piece-index
    (pieces_of c.args.pieces.now) (omega arith) c.loop-piece.invariant
