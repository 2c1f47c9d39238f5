use Rattle.cad_mark_laws.proofs.Numbered.{functions_marked}
use Rattle.cad_mark_laws.proofs.laws.functions_have_marks.Goals as goal

pub returns : goal.returns
returns c = functions_marked
