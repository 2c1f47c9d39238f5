use Rattle.cad_labels.proofs.Places.{naming_keeps}
use Rattle.cad_labels.proofs.names_are_new.Goals as goal

pub returns : goal.returns
returns c = naming_keeps
