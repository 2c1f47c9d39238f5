use Rattle.cad_mark_laws.proofs.Settings.{set_marked}
use Rattle.cad_mark_laws.proofs.laws.set_fields_have_marks.Goals as goal

pub returns : goal.returns
returns c = set_marked
