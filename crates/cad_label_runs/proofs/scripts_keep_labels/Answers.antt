use Rattle.cad_label_runs.proofs.Given.{scripts_keep}
use Rattle.cad_label_runs.proofs.scripts_keep_labels.Goals as goal

pub returns : goal.returns
returns c = scripts_keep
