use Rattle.cad_types.proofs.Growing.{resources_stay}
use Rattle.cad_types.proofs.laws.resource_types_stay.Goals as goal

pub returns : goal.returns
returns c = resources_stay
