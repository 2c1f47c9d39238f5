use Rattle.cad_bounds.proofs.Extended.{deployments_extend}
use Rattle.cad_bounds.proofs.deployments_extend.Goals as goal

pub returns : goal.returns
returns c = deployments_extend
