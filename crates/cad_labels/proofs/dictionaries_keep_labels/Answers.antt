use Rattle.cad_labels.proofs.Members.{dictionaries_keep}
use Rattle.cad_labels.proofs.dictionaries_keep_labels.Goals as goal

pub returns : goal.returns
returns c = dictionaries_keep
