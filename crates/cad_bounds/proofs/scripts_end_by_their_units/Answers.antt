use Rattle.cad_bounds.proofs.Bounded.{scripts_bounded}
use Rattle.cad_bounds.proofs.scripts_end_by_their_units.Goals as goal

pub returns : goal.returns
returns c = scripts_bounded
