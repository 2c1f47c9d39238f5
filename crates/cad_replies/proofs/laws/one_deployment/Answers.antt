use Rattle.cad_replies.proofs.DeploymentUniqueness.{one_outcome}
use Rattle.cad_replies.proofs.laws.one_deployment.Goals as goal

pub returns : goal.returns
returns c = one_outcome
