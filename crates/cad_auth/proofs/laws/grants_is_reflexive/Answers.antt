use Rattle.cad_auth.specs.Grants.{sets}
use Rattle.cad_auth.proofs.Covers.{covers_itself}
use Rattle.cad_auth.proofs.laws.grants_is_reflexive.Goals as goal

pub returns : goal.returns
returns c a = covers_itself (sets a)
