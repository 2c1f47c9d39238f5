use Rattle.cad_mark_laws.proofs.Linear.{linear_marked}
use Rattle.cad_mark_laws.proofs.laws.linear_has_marks.Goals as goal

pub returns : goal.returns
returns c = linear_marked
