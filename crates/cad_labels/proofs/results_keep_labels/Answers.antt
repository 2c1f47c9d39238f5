use Rattle.cad_labels.proofs.Frames.{results_keep}
use Rattle.cad_labels.proofs.results_keep_labels.Goals as goal

pub returns : goal.returns
returns c = results_keep
