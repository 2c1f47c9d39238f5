use Rattle.cad_auth.specs.Grants.{sets}
use Rattle.cad_auth.proofs.Covers.{covers_on}
use Rattle.cad_auth.proofs.laws.grants_is_transitive.Goals as goal

pub returns : goal.returns
returns c x y z = covers_on (sets x) (sets y) (sets z)
