use Rattle.std.proofs.Common.{map, arith, add-one}
use Rattle.std.proofs.lemmas.Result.{err_from_is_err_and}
use Rattle.cad_worlds.specs.Standing.{register_of}
use Rattle.cad_world_registers.specs.Meaning.{parts_of}
use Rattle.cad_world_registers.specs.Told.{all_made, make_one}
use Rattle.cad_world_registers.proofs.Made.{row_taken, row_refused, rows_taken}
use Rattle.cad_world_registers.proofs.making.take_rows.Goals as goal

pub returns-in_err-take_row : goal.returns-in_err-take_row
returns-in_err-take_row c =
    let p = err_from_is_err_and c.from_residual.result c.from_residual.ensures.1 in
    let all = all_made (map register_of c.args.rows.now) (parts_of c.args.parts.now) in
    rw (p.1, p.2) (row_refused make_one c.args.rows.now c.loop-row.row-index c.row-item.result (parts_of c.loop-row.parts) all c.in_err-take_row.field-0.0 c.loop-row-test.true c.row-item.is c.loop-row.invariant c.in_err-take_row.ensures)

pub loop-row-preserved : goal.loop-row-preserved
loop-row-preserved c =
    let all = all_made (map register_of c.args.rows.now) (parts_of c.args.parts.now) in
    rw add-one (row_taken make_one c.args.rows.now c.loop-row.row-index c.row-item.result (parts_of c.loop-row.parts) (parts_of c.take_row.new.parts) all c.loop-row-test.true c.row-item.is c.loop-row.invariant c.in_ok-take_row.ensures)

pub returns : goal.returns
returns c =
    let all = all_made (map register_of c.args.rows.now) (parts_of c.args.parts.now) in
    rows_taken make_one c.args.rows.now c.loop-row.row-index (parts_of c.loop-row.parts) all (omega arith) c.loop-row.invariant
