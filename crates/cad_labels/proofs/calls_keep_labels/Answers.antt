use Rattle.cad_labels.proofs.Frames.{calls_keep}
use Rattle.cad_labels.proofs.calls_keep_labels.Goals as goal

pub returns : goal.returns
returns c = calls_keep
