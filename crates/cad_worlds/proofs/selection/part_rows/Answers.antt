use Rattle.std.proofs.Common.{add-one, arith}
use Rattle.cad_accounts.specs.Memory.{rows_in_blocks}
use Rattle.cad_worlds.proofs.Fronts.{blocks_passed, block_taken, all_blocks}
use Rattle.cad_worlds.proofs.Lists.{ahead_of}
use Rattle.cad_worlds.specs.RowLists.{rows_at}
use Rattle.cad_worlds.proofs.selection.part_rows.Goals as goal

pub loop-at-preserved-then-passed-eq0 : goal.loop-at-preserved-then-passed-eq0
loop-at-preserved-then-passed-eq0 c =
    let blocks = c.args.blocks.now in
    let all = rows_in_blocks blocks in
    rw add-one
    (omega (arith, c.loop-at-test.true), block_taken c.args.indexes.now (rows_at c.loop-at.found.items) all blocks c.loop-at.at (rows_at c.push_rows.new.found.items) c.rows.result.now c.index-blocks-at.result c.loop-at-test.true c.index-blocks-at.is c.rows.ensures.rows c.in_ok-push_rows.ensures c.loop-at.invariant.1)

pub loop-at-preserved : goal.loop-at-preserved
loop-at-preserved c =
    let blocks = c.args.blocks.now in
    let left = c.blocks_from.result.now in
    let passed = c.passed_blocks-passed.ensures in
    let n = c.passed_blocks-passed.result in (
      ahead_of blocks left c.loop-at.at n c.blocks_from.ensures c.loop-at.invariant.0 passed.few,
      blocks_passed c.args.indexes.now (rows_at c.loop-at.found.items) (rows_in_blocks blocks) blocks c.loop-at.at left n c.blocks_from.ensures passed.others c.loop-at.invariant.1,
    )

pub returns : goal.returns
returns c = all_blocks c.args.indexes.now (rows_at c.loop-at.found.items) c.args.blocks.now c.loop-at.at (omega arith) c.loop-at.invariant.1
