use Rattle.cad_store.proofs.Holding.{quiet}
use Rattle.cad_store.proofs.laws.quiet_images.Goals as goal

pub returns : goal.returns
returns c = quiet
