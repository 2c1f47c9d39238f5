use Rattle.cad_types.proofs.Growing.{order_stays}
use Rattle.cad_types.proofs.laws.the_order_stays.Goals as goal

pub returns : goal.returns
returns c = order_stays
