use Rattle.std.proofs.Common.{vec_len}
use Rattle.cad_pieces.proofs.piece.discard_pieces.Given as goal

abbrev pub decreases-loop-piece : goal.decreases-loop-piece
decreases-loop-piece l = vec_len l.left
