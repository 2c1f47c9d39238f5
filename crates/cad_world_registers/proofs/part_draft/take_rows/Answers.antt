use Rattle.std.proofs.Common.{map, arith, add-one}
use Rattle.std.proofs.lemmas.Result.{err_from_is_err_and}
use Rattle.cad_worlds.proofs.References.{inside_at, outside_at, item_at}
use Rattle.cad_worlds.specs.RowLists.{rows_at}
use Rattle.cad_worlds.specs.Standing.{register_of}
use Rattle.cad_world_registers.proofs.Made.{row_taken, row_refused, rows_taken}
use Rattle.cad_world_registers.proofs.part_draft.take_rows.Goals as goal
use Rattle.cad_world_registers.specs.Code.PartDrafts.{part_of, take, take_all}

pub returns-in_err-take_row : goal.returns-in_err-take_row
returns-in_err-take_row c =
    let p = err_from_is_err_and c.from_residual.result c.from_residual.ensures.1 in
    let rows = c.args.rows.now in
    let i = c.loop-row.row-index in
    let all = take_all c.args.wanted.now (map register_of (rows_at rows)) (part_of c.args.draft.now) in
    rw (p.1, p.2)
    (row_refused (take c.args.wanted.now) (rows_at rows) i c.row-item.result.now (part_of c.loop-row.draft) all c.in_err-take_row.field-0.0 (inside_at rows i c.loop-row-test.true) (item_at rows i c.row-item.result c.row-item.is) c.loop-row.invariant c.in_err-take_row.ensures)

pub loop-row-preserved : goal.loop-row-preserved
loop-row-preserved c =
    let rows = c.args.rows.now in
    let i = c.loop-row.row-index in
    let all = take_all c.args.wanted.now (map register_of (rows_at rows)) (part_of c.args.draft.now) in
    rw add-one
    (row_taken (take c.args.wanted.now) (rows_at rows) i c.row-item.result.now (part_of c.loop-row.draft) (part_of c.take_row.new.draft) all (inside_at rows i c.loop-row-test.true) (item_at rows i c.row-item.result c.row-item.is) c.loop-row.invariant c.in_ok-take_row.ensures)

pub returns : goal.returns
returns c =
    let rows = c.args.rows.now in
    let all = take_all c.args.wanted.now (map register_of (rows_at rows)) (part_of c.args.draft.now) in
    rows_taken (take c.args.wanted.now) (rows_at rows) c.loop-row.row-index (part_of c.loop-row.draft) all (outside_at rows c.loop-row.row-index (omega arith)) c.loop-row.invariant
