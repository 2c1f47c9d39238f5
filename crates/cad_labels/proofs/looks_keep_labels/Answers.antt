use Rattle.cad_labels.proofs.Places.{looks_keep}
use Rattle.cad_labels.proofs.looks_keep_labels.Goals as goal

pub returns : goal.returns
returns c = looks_keep
