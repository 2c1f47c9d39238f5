use Rattle.cad_labels.proofs.Ends.{destroying_keeps}
use Rattle.cad_labels.proofs.destroying_keeps_labels.Goals as goal

pub returns : goal.returns
returns c = destroying_keeps
