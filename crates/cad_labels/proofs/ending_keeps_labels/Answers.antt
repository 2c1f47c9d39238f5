use Rattle.cad_labels.proofs.Places.{ending_keeps}
use Rattle.cad_labels.proofs.ending_keeps_labels.Goals as goal

pub returns : goal.returns
returns c = ending_keeps
