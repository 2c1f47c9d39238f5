use Rattle.cad_labels.proofs.Frames.{storing_keeps}
use Rattle.cad_labels.proofs.storing_keeps_labels.Goals as goal

pub returns : goal.returns
returns c = storing_keeps
