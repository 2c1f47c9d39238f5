use Rattle.cad_labels.proofs.Gone.{gone_stays_gone}
use Rattle.cad_labels.proofs.what_is_gone_stays_gone.Goals as goal

pub returns : goal.returns
returns c = gone_stays_gone
