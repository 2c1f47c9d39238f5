use Rattle.std.specs.Prelude.{Result}
use Rattle.cad_pieces.specs.Views.{pieces_of}
use Rattle.cad_pieces.proofs.FirstStops.{answered}
use Rattle.cad_pieces.proofs.stops.types_stop.Goals as goal

pub returns : goal.returns
returns c = answered (pieces_of c.args.pieces.now) c.first_stop.result c.first_stop.ensures
