use Rattle.cad_labels.proofs.Places.{assigning_keeps}
use Rattle.cad_labels.proofs.assigning_keeps_labels.Goals as goal

pub returns : goal.returns
returns c = assigning_keeps
