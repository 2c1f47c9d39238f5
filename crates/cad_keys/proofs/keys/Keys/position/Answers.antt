use Rattle.cad_keys.proofs.Kept.{fits_in}
use Rattle.cad_keys.proofs.keys.Keys.position.Goals as goal

pub walk-requires : goal.walk-requires
walk-requires c = rw c.as_slice-rows.ensures.value (fits_in c.self.inside.index c.in-Some.index c.deref.result.now c.self.inside.rows.items c.in-Some.is c.deref.ensures c.self.invariant)
