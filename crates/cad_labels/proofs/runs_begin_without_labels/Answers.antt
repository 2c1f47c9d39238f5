use Rattle.cad_labels.proofs.Places.{begins_without}
use Rattle.cad_labels.proofs.runs_begin_without_labels.Goals as goal

pub returns : goal.returns
returns c = begins_without
