use Rattle.cad_label_runs.proofs.Given.{terms_keep}
use Rattle.cad_label_runs.proofs.terms_keep_labels.Goals as goal

pub returns : goal.returns
returns c = terms_keep
