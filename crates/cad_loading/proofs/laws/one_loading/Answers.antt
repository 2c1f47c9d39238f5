use Rattle.cad_loading.proofs.Orders.{same_loads}
use Rattle.cad_loading.proofs.laws.one_loading.Goals as goal

pub returns : goal.returns
returns c = same_loads c.one_acceptance.ensures c.imports_are_enough.ensures
