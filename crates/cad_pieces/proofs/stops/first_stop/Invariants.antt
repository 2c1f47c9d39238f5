use Rattle.std.proofs.Common.{◌≡◌, drop}
use Rattle.cad_pieces.specs.Code.Stops as spec
use Rattle.cad_pieces.specs.Views.{pieces_of}
use Rattle.cad_pieces.proofs.stops.first_stop.Given as goal

abbrev pub invariant-loop-piece : goal.invariant-loop-piece
invariant-loop-piece l = spec.first_stop (pieces_of (drop l.piece-index l.pieces)) ≡ spec.first_stop (pieces_of l.pieces)
