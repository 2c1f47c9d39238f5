use Rattle.cad_labels.proofs.Places.{making_keeps}
use Rattle.cad_labels.proofs.making_keeps_labels.Goals as goal

pub returns : goal.returns
returns c = making_keeps
