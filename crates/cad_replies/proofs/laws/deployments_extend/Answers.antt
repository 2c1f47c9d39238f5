use Rattle.cad_replies.proofs.DeploymentExtending.{outcomes_extend}
use Rattle.cad_replies.proofs.laws.deployments_extend.Goals as goal

pub returns : goal.returns
returns c = outcomes_extend c.deployments_extend.ensures
