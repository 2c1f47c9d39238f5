use Rattle.cad_label_runs.proofs.Given.{deployments_keep}
use Rattle.cad_label_runs.proofs.deployments_keep_labels.Goals as goal

pub returns : goal.returns
returns c = deployments_keep
