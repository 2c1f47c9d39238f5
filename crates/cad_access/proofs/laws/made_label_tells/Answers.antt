use Rattle.cad_access.proofs.NewestCall.{made_is_that}
use Rattle.cad_access.proofs.laws.made_label_tells.Goals as goal

pub returns : goal.returns
returns c = made_is_that
