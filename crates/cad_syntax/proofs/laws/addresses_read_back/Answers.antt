use Rattle.cad_syntax.proofs.Hex.{address_of-address_text}
use Rattle.cad_syntax.proofs.laws.addresses_read_back.Goals as goal

pub returns : goal.returns
returns c = address_of-address_text
