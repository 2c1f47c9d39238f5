use Rattle.cad_auth.proofs.Stronger.{targets_cover}
use Rattle.cad_auth.proofs.laws.targets_cover.Goals as goal

pub returns : goal.returns
returns c = targets_cover
