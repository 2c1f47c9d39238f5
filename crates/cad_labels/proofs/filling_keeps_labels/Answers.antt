use Rattle.cad_labels.proofs.Places.{filling_keeps}
use Rattle.cad_labels.proofs.filling_keeps_labels.Goals as goal

pub returns : goal.returns
returns c = filling_keeps
