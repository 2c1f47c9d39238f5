use Rattle.std.proofs.Common.{subst}
use Rattle.cad_wire.specs.Fields.{AreBytes}
use Rattle.cad_world_registers.proofs.rising.key_of.Goals as goal

pub returns-clause-fits : goal.returns-clause-fits
returns-clause-fits c = (subst AreBytes c.as_slice.ensures c.as_bytes-key.ensures.fits, subst AreBytes c.as_slice-2.ensures c.as_bytes-value.ensures.fits)
