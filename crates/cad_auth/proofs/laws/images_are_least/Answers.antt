use Rattle.cad_auth.proofs.Least.{is_image}
use Rattle.cad_auth.proofs.laws.images_are_least.Goals as goal

pub returns : goal.returns
returns c = is_image
