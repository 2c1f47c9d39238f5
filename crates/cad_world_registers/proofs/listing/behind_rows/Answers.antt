use Rattle.std.proofs.Common.{map, ap, drop, suc, arith, add-one}
use Rattle.cad_worlds.specs.RowLists.{rows_listed}
use Rattle.cad_worlds.specs.Standing.{register_of}
use Rattle.cad_world_registers.proofs.Listed.{left_turn, left_differs, left_none, left_end, rows_from, no_rows}
use Rattle.cad_world_registers.proofs.Same.{same_register, other_register}
use Rattle.cad_world_registers.proofs.listing.behind_rows.Goals as goal

pub loop-row-init : goal.loop-row-init
loop-row-init c = λ rest. ((λ e. e), (λ e. e))

pub loop-row-preserved : goal.loop-row-preserved
loop-row-preserved c =
    let own = c.args.own.now in
    let i = c.loop-row.row-index in
    let row = c.row-item.result in
    let first = c.in-Some.first.now in
    rw add-one (left_turn (map register_of (rows_listed c.args.list)) (map register_of (rows_listed c.loop-row.left)) (map register_of own) (map register_of (drop i own)) c.loop-row.invariant
    (register_of first) (register_of row) (map register_of (rows_listed c.in-Some.rest)) (map register_of (drop (suc i) own)) (ap (map register_of) c.in-Some.ensures) (rows_from own i row c.loop-row-test.true c.row-item.is)
    (same_register first row c.is_same_row.result c.is_same_row.ensures c.if-not-is_same_row.false))

pub returns-then-not-is_same_row : goal.returns-then-not-is_same_row
returns-then-not-is_same_row c =
    let own = c.args.own.now in
    let i = c.loop-row.row-index in
    let row = c.row-item.result in
    let first = c.in-Some.first.now in
    left_differs (map register_of (rows_listed c.args.list)) (map register_of (rows_listed c.loop-row.left)) (map register_of own) (map register_of (drop i own)) c.loop-row.invariant
    (register_of first) (register_of row) (map register_of (rows_listed c.in-Some.rest)) (map register_of (drop (suc i) own)) (ap (map register_of) c.in-Some.ensures) (rows_from own i row c.loop-row-test.true c.row-item.is)
    (other_register first row c.is_same_row.result c.is_same_row.ensures c.if-not-is_same_row.true)

pub returns-in-None : goal.returns-in-None
returns-in-None c =
    let own = c.args.own.now in
    let i = c.loop-row.row-index in
    let row = c.row-item.result in
    left_none (map register_of (rows_listed c.args.list)) (map register_of (rows_listed c.loop-row.left)) (map register_of own) (map register_of (drop i own)) c.loop-row.invariant
    (register_of row) (map register_of (drop (suc i) own)) (ap (map register_of) c.in-None.ensures) (rows_from own i row c.loop-row-test.true c.row-item.is)

pub returns : goal.returns
returns c =
    let own = c.args.own.now in
    let i = c.loop-row.row-index in
    left_end (map register_of (rows_listed c.args.list)) (map register_of (rows_listed c.loop-row.left)) (map register_of own) (map register_of (drop i own)) c.loop-row.invariant (no_rows own i (omega arith))
