use Rattle.cad_auth.specs.Grants.{sets}
use Rattle.cad_auth.proofs.Covers.{covers_on}
use Rattle.cad_auth.proofs.laws.stronger_grants_more.Goals as goal

pub returns : goal.returns
returns c weak strong need = covers_on (sets strong) (sets weak) (sets need)
