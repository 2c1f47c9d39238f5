use Rattle.std.proofs.Common.{arith}
use Rattle.cad_codec.proofs.NumberParts.{exact}
use Rattle.cad_codec.proofs.reading.number_from.Goals as goal

pub returns : goal.returns
returns c = exact c.number_of.result c.args.kind c.args.sign c.args.upper c.args.lower (omega arith) c.number_of.ensures.found c.number_of.ensures.none
