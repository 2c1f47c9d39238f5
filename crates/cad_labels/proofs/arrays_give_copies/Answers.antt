use Rattle.cad_labels.proofs.Members.{arrays_give_copies}
use Rattle.cad_labels.proofs.arrays_give_copies.Goals as goal

pub returns : goal.returns
returns c = arrays_give_copies
