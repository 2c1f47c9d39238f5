use Rattle.cad_bounds.proofs.Bounded.{calls_bounded}
use Rattle.cad_bounds.proofs.calls_end_by_their_units.Goals as goal

pub returns : goal.returns
returns c = calls_bounded
