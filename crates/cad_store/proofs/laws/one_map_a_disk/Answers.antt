use Rattle.cad_store.proofs.Holding.{one_map}
use Rattle.cad_store.proofs.laws.one_map_a_disk.Goals as goal

pub returns : goal.returns
returns c = one_map
