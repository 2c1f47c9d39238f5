use Rattle.cad_label_runs.proofs.Given.{labels_given}
use Rattle.cad_label_runs.proofs.labels_are_given_once.Goals as goal

pub returns : goal.returns
returns c = labels_given
