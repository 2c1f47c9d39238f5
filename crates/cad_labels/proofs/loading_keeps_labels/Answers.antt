use Rattle.cad_labels.proofs.Accounts.{loading_keeps}
use Rattle.cad_labels.proofs.loading_keeps_labels.Goals as goal

pub returns : goal.returns
returns c = loading_keeps
