use Rattle.cad_labels.proofs.Places.{swapping_keeps}
use Rattle.cad_labels.proofs.swapping_keeps_labels.Goals as goal

pub returns : goal.returns
returns c = swapping_keeps
