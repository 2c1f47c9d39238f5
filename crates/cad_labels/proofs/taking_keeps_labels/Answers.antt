use Rattle.cad_labels.proofs.Places.{taking_keeps}
use Rattle.cad_labels.proofs.taking_keeps_labels.Goals as goal

pub returns : goal.returns
returns c = taking_keeps
