use Rattle.std.proofs.Common.{arith}
use Rattle.cad_world_registers.proofs.rising.as_bytes.Goals as goal

pub returns-clause-fits : goal.returns-clause-fits
returns-clause-fits c = λ i. omega (arith, c.type_inv.bytes i)
