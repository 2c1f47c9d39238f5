use Rattle.cad_accounts.proofs.Promising.{not_split}
use Rattle.cad_accounts.proofs.registers.MapRegisters.part.Goals as goal

pub returns-in-None-clause-ok : goal.returns-in-None-clause-ok
returns-in-None-clause-ok c = not_split c.args.last.now c.args.key.now.0 c.args.self.now.blocks.items
