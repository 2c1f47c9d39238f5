use Rattle.cad_labels.proofs.Gone.{references_end}
use Rattle.cad_labels.proofs.references_end_once.Goals as goal

pub returns : goal.returns
returns c = references_end
