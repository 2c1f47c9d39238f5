use Rattle.std.proofs.Common.{map, drop}
use Rattle.cad_declarations.specs.Views.{tables_of}
use Rattle.cad_pieces.specs.Views.{piece_of, pieces_of}
use Rattle.cad_check.specs.Answers.{piece_refused}
use Rattle.cad_check.proofs.Ordered.{Onward}
use Rattle.cad_check.proofs.phases.pieces_stop.Given as goal

abbrev pub invariant-loop-piece : goal.invariant-loop-piece
invariant-loop-piece l = Onward (piece_refused (tables_of l.tables) l.phase) (map piece_of (drop l.piece-index l.pieces)) (pieces_of l.pieces)
