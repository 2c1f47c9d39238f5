use Rattle.cad_types.proofs.Transfers.{not_wrapped}
use Rattle.cad_types.proofs.laws.what_is_below_is_not_wrapped.Goals as goal

pub returns : goal.returns
returns c = not_wrapped
