use Rattle.cad_types.proofs.Order.{from_sub, resource_up}
use Rattle.cad_types.proofs.laws.resource_types_stay_above.Goals as goal

pub returns : goal.returns
returns c k closed t u sub e = resource_up k t u (from_sub k closed sub) e
