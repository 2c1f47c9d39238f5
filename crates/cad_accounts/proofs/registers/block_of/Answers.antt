use Rattle.std.proofs.Common.{◌∙◌}
use Rattle.cad_accounts.proofs.Blocks.{block_there, block_before}
use Rattle.cad_accounts.proofs.registers.block_of.Goals as goal

pub returns-in-Ok : goal.returns-in-Ok
returns-in-Ok c = block_there c.args.key.now c.args.blocks.now c.in-Ok.i c.requires c.in-Ok.ensures

pub returns-in-Err : goal.returns-in-Err
returns-in-Err c = c.saturating_sub.ensures ∙ block_before c.args.key.now c.args.blocks.now c.in-Err.i c.in-Err.ensures
