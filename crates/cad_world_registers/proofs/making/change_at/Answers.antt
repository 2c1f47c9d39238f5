use Rattle.std.proofs.Common.{arith}
use Rattle.cad_world_registers.proofs.Found.{changed_nowhere}
use Rattle.cad_world_registers.specs.Meaning.{changed_by}
use Rattle.cad_world_registers.proofs.making.change_at.Goals as goal

pub returns-in-None : goal.returns-in-None
returns-in-None c = changed_nowhere (changed_by c.args.change) c.args.accounts.now.items c.args.address (λ i e. omega (arith, c.in-None.ensures i e, c.len.ensures))
