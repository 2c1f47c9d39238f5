use Rattle.std.proofs.Common.{◌∙◌, ap, add-one, arith}
use Rattle.cad_worlds.proofs.Lists.{ahead_of}
use Rattle.cad_worlds.proofs.Passing.{row_taken, rows_passed, rows_ended}
use Rattle.cad_worlds.proofs.References.{one_more}
use Rattle.cad_worlds.specs.RowLists.{rows_at}
use Rattle.cad_worlds.proofs.selection.push_rows.Goals as goal

pub loop-i-preserved-then-passed-eq0 : goal.loop-i-preserved-then-passed-eq0
loop-i-preserved-then-passed-eq0 c =
    let rows = c.args.rows.now in
    let found = c.loop-i.found.items in
    let grown = ap rows_at c.in_ok-push.ensures.items ∙ one_more found _ in
    rw add-one
    (omega (arith, c.loop-i-test.true), λ behind all h. row_taken c.args.indexes.now (rows_at found) (rows_at c.push.new.self.items) behind rows c.loop-i.i c.index-rows-i.result all c.loop-i-test.true c.index-rows-i.is grown (c.loop-i.invariant.1 behind all h))

pub loop-i-preserved : goal.loop-i-preserved
loop-i-preserved c =
    let rows = c.args.rows.now in
    let left = c.rows_from.result.now in
    let passed = c.passed_rows-passed.ensures in
    let n = c.passed_rows-passed.result in (
      ahead_of rows left c.loop-i.i n c.rows_from.ensures c.loop-i.invariant.0 passed.few,
      λ behind all h. rows_passed c.args.indexes.now (rows_at c.loop-i.found.items) behind rows left c.loop-i.i n all c.rows_from.ensures passed.others (c.loop-i.invariant.1 behind all h),
    )

pub returns : goal.returns
returns c behind all h = rows_ended c.args.indexes.now (rows_at c.loop-i.found.items) behind c.args.rows.now c.loop-i.i all (omega arith) (c.loop-i.invariant.1 behind all h)
