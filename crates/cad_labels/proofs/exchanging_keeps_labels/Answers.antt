use Rattle.cad_labels.proofs.Places.{exchanging_keeps}
use Rattle.cad_labels.proofs.exchanging_keeps_labels.Goals as goal

pub returns : goal.returns
returns c = exchanging_keeps
