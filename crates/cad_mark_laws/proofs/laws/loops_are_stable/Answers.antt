use Rattle.cad_mark_laws.proofs.Stable.{loops_stable}
use Rattle.cad_mark_laws.proofs.laws.loops_are_stable.Goals as goal

pub returns : goal.returns
returns c = loops_stable
