use Rattle.std.proofs.Common.{arith}
use Rattle.cad_world_registers.proofs.Again.{value_gives}
use Rattle.cad_world_registers.proofs.fields.value_in.Goals as goal

pub returns : goal.returns
returns c = value_gives c.args.bytes.now c.decode.result (λ i. omega (arith, c.type_inv.bytes i)) c.decode.ensures.found c.decode.ensures.only
