use Rattle.cad_label_runs.proofs.Members.{members_keep}
use Rattle.cad_label_runs.proofs.members_keep_labels.Goals as goal

pub returns : goal.returns
returns c = members_keep
