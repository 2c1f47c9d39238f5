-- One map of registers stands for one World.
use Rattle.cad_loading.specs.Laws.{OneLoading}
use Rattle.cad_worlds.proofs.OneWorld as worlds
use Rattle.cad_world_reading.specs.Laws.{OneWorld}

pub one_world_lem : OneLoading → OneWorld
one_world_lem known = worlds.one_world_lem known
