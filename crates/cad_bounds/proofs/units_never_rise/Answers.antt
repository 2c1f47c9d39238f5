use Rattle.cad_bounds.proofs.Bounded.{never_rise}
use Rattle.cad_bounds.proofs.units_never_rise.Goals as goal

pub returns : goal.returns
returns c = never_rise
