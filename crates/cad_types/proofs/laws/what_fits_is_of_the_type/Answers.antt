use Rattle.cad_types.proofs.Transfers.{fits_once_there}
use Rattle.cad_types.proofs.laws.what_fits_is_of_the_type.Goals as goal

pub returns : goal.returns
returns c = fits_once_there
