use Rattle.cad_labels.proofs.Members.{arrays_keep}
use Rattle.cad_labels.proofs.arrays_keep_labels.Goals as goal

pub returns : goal.returns
returns c = arrays_keep
