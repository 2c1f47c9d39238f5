use Rattle.cad_types.proofs.Transfers.{layers_depths}
use Rattle.cad_types.proofs.laws.layers_are_depths.Goals as goal

pub returns : goal.returns
returns c = layers_depths
