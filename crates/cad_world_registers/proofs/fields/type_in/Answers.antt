use Rattle.std.proofs.Common.{arith}
use Rattle.cad_world_registers.proofs.Again.{type_gives}
use Rattle.cad_world_registers.proofs.fields.type_in.Goals as goal

pub returns : goal.returns
returns c = type_gives c.args.bytes.now c.decode_type.result (λ i. omega (arith, c.type_inv.bytes i)) c.decode_type.ensures.found c.decode_type.ensures.only
