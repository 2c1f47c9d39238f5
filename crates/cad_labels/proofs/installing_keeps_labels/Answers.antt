use Rattle.cad_labels.proofs.Accounts.{installing_keeps}
use Rattle.cad_labels.proofs.installing_keeps_labels.Goals as goal

pub returns : goal.returns
returns c = installing_keeps
