use Rattle.cad_bounds.proofs.Bounded.{deployments_bounded}
use Rattle.cad_bounds.proofs.deployments_end_by_their_units.Goals as goal

pub returns : goal.returns
returns c = deployments_bounded
