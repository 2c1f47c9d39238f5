use Rattle.cad_worlds.proofs.OneWorld.{one_world_lem}
use Rattle.cad_worlds.proofs.laws.one_world.Goals as goal

pub returns : goal.returns
returns c = one_world_lem
