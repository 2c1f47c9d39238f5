use Rattle.cad_labels.proofs.Gone.{found_given}
use Rattle.cad_labels.proofs.what_is_found_was_given.Goals as goal

pub returns : goal.returns
returns c = found_given
