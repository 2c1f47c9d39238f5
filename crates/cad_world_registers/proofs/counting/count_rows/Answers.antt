use Rattle.std.proofs.Common.{length, sym, arith, add-one}
use Rattle.std.proofs.lemmas.List.{length-append}
use Rattle.cad_accounts.specs.Memory.{rows_in_blocks}
use Rattle.cad_worlds.specs.RowLists.{rows_listed}
use Rattle.cad_world_registers.proofs.Listed.{count_turn, count_end}
use Rattle.cad_world_registers.proofs.counting.count_rows.Goals as goal

pub loop-block-init : goal.loop-block-init
loop-block-init c = sym (length-append c.args.list.rows.now (rows_in_blocks c.args.list.blocks.now))

pub loop-block-preserved : goal.loop-block-preserved
loop-block-preserved c =
    rw add-one (count_turn c.args.list.blocks.now c.loop-block.block-index c.block-item.result c.rows.result.now c.loop-block.count c.in_ok-count.count (length (rows_listed c.args.list)) c.loop-block-test.true c.block-item.is c.rows.ensures.rows c.loop-block.invariant c.in_ok-count.ensures)

pub returns : goal.returns
returns c = count_end c.args.list.blocks.now c.loop-block.block-index c.loop-block.count (length (rows_listed c.args.list)) (omega arith) c.loop-block.invariant
