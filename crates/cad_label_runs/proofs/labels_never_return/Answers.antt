use Rattle.cad_label_runs.proofs.Given.{transactions_follow}
use Rattle.cad_label_runs.proofs.labels_never_return.Goals as goal

pub returns : goal.returns
returns c = transactions_follow
