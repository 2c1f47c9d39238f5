use Rattle.cad_labels.proofs.Members.{keys_have_none}
use Rattle.cad_labels.proofs.keys_have_no_labels.Goals as goal

pub returns : goal.returns
returns c = keys_have_none
