use Rattle.std.proofs.Common.{[]}
use Rattle.cad_accounts.specs.Memory.{rows_in_blocks}
use Rattle.cad_world_registers.proofs.Listed.{list_rises, list_fails, both_fit}
use Rattle.cad_world_registers.proofs.rising.are_in_order.Goals as goal

pub returns-in-Some-clause-rise : goal.returns-in-Some-clause-rise
returns-in-Some-clause-rise c = list_rises [] c.in-Some.last.now c.args.list.rows.now (rows_in_blocks c.args.list.blocks.now) c.blocks_rise.result c.in-Some.ensures.rise c.blocks_rise.ensures.rise

pub returns-in-Some-clause-fit : goal.returns-in-Some-clause-fit
returns-in-Some-clause-fit c t = both_fit c.args.list.rows.now (rows_in_blocks c.args.list.blocks.now) c.in-Some.ensures.fit (c.blocks_rise.ensures.fit t)

pub returns-in-None-clause-rise : goal.returns-in-None-clause-rise
returns-in-None-clause-rise c = list_fails [] c.args.list.rows.now (rows_in_blocks c.args.list.blocks.now) c.in-None.ensures.rise
