use Rattle.std.proofs.Common.{◌++◌, ◌∙◌, List, ap, add-one, arith}
use Rattle.cad_accounts.specs.Memory.{rows_in_blocks}
use Rattle.cad_accounts.specs.declared.row.Row.{Row}
use Rattle.cad_worlds.proofs.Blocks.{block_turn, block_end}
use Rattle.cad_worlds.specs.RowLists.{rows_at}
use Rattle.cad_worlds.proofs.merging.all_rows.Goals as goal

pub loop-block-preserved : goal.loop-block-preserved
loop-block-preserved c =
    let blocks = c.args.blocks.now in
    let now = rows_at c.loop-block.all.items in
    rw add-one (block_turn blocks c.loop-block.block-index c.block-item.result now (rows_at c.push_all.new.all.items) (rows_in_blocks blocks) c.loop-block-test.true c.block-item.is c.loop-block.invariant
    (c.in_ok-push_all.ensures ∙ ap (λ (l : List Row). now ++ l) c.rows.ensures.rows))

pub returns : goal.returns
returns c =
    let blocks = c.args.blocks.now in
    block_end blocks c.loop-block.block-index (rows_at c.loop-block.all.items) (rows_in_blocks blocks) (omega arith) c.loop-block.invariant
