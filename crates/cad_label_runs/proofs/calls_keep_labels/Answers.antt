use Rattle.cad_label_runs.proofs.Given.{all_calls_keep}
use Rattle.cad_label_runs.proofs.calls_keep_labels.Goals as goal

pub returns : goal.returns
returns c = all_calls_keep
