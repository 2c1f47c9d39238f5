use Rattle.cad_auth.proofs.Stronger.{image_stronger}
use Rattle.cad_auth.proofs.laws.images_keep_order.Goals as goal

pub returns : goal.returns
returns c = image_stronger
