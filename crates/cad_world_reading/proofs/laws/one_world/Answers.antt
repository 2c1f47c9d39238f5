use Rattle.cad_world_reading.proofs.OneWorld.{one_world_lem}
use Rattle.cad_world_reading.proofs.laws.one_world.Goals as goal

pub returns : goal.returns
returns c = one_world_lem c.one_loading.ensures
