use Rattle.cad_bounds.proofs.Bounded.{transactions_bounded}
use Rattle.cad_bounds.proofs.transactions_end_by_their_units.Goals as goal

pub returns : goal.returns
returns c = transactions_bounded
