use Rattle.cad_number_codec.proofs.Decoded.{one}
use Rattle.cad_number_codec.proofs.laws.one_spelling.Goals as goal

pub returns : goal.returns
returns c = one
