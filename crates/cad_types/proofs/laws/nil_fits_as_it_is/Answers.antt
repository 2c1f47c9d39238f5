use Rattle.cad_types.proofs.Transfers.{nil_fits}
use Rattle.cad_types.proofs.laws.nil_fits_as_it_is.Goals as goal

pub returns : goal.returns
returns c = nil_fits
