use Rattle.std.proofs.Common.{◌+◌, get_or, map, ap, suc, sym, ◌∙◌, arith, add-one}
use Rattle.std.proofs.lemmas.Bool.{false≢true}
use Rattle.cad_wire.specs.Fields.{number_field}
use Rattle.cad_world.specs.Registers.{register, next_key}
use Rattle.cad_worlds.specs.RowLists.{rows_listed}
use Rattle.cad_worlds.specs.Standing.{register_of}
use Rattle.cad_world_registers.proofs.Listed.{left_turn, left_differs, left_none, left_end, nexts_from, nexts_more, no_nexts, some_next}
use Rattle.cad_world_registers.proofs.listing.behind_nexts.Goals as goal

pub loop-i-init : goal.loop-i-init
loop-i-init c = λ rest. ((λ e. e), (λ e. e))

pub loop-i-preserved : goal.loop-i-preserved
loop-i-preserved c =
    let all = c.args.accounts.now in
    let i = c.loop-i.i in
    let account = get_or all i c.index-accounts-i.result in
    rw add-one (left_turn (map register_of (rows_listed c.args.list)) (map register_of (rows_listed c.loop-i.left)) (nexts_from all 0) (nexts_from all i) c.loop-i.invariant
    (register_of c.in-Some.first.now) (register (next_key (i + 1)) (number_field account.next_controller)) (map register_of (rows_listed c.in-Some.rest)) (nexts_from all (suc i)) (ap (map register_of) c.in-Some.ensures)
    (nexts_more all i (i + 1) c.index-accounts-i.result c.loop-i-test.true (omega arith)) (c.is_next.ensures.0 c.if-not-is_next.false))

pub returns-then-not-is_next : goal.returns-then-not-is_next
returns-then-not-is_next c =
    let all = c.args.accounts.now in
    let i = c.loop-i.i in
    let account = get_or all i c.index-accounts-i.result in
    left_differs (map register_of (rows_listed c.args.list)) (map register_of (rows_listed c.loop-i.left)) (nexts_from all 0) (nexts_from all i) c.loop-i.invariant
    (register_of c.in-Some.first.now) (register (next_key (i + 1)) (number_field account.next_controller)) (map register_of (rows_listed c.in-Some.rest)) (nexts_from all (suc i)) (ap (map register_of) c.in-Some.ensures)
    (nexts_more all i (i + 1) c.index-accounts-i.result c.loop-i-test.true (omega arith)) (λ same. false≢true (sym c.if-not-is_next.true ∙ c.is_next.ensures.1 same))

pub returns-in-None : goal.returns-in-None
returns-in-None c =
    let all = c.args.accounts.now in
    let i = c.loop-i.i in
    let one = some_next all i (suc i) c.loop-i-test.true in
    left_none (map register_of (rows_listed c.args.list)) (map register_of (rows_listed c.loop-i.left)) (nexts_from all 0) (nexts_from all i) c.loop-i.invariant one.0 (nexts_from all (suc i)) (ap (map register_of) c.in-None.ensures) one.1

pub returns : goal.returns
returns c =
    let all = c.args.accounts.now in
    left_end (map register_of (rows_listed c.args.list)) (map register_of (rows_listed c.loop-i.left)) (nexts_from all 0) (nexts_from all c.loop-i.i) c.loop-i.invariant (no_nexts all c.loop-i.i (omega arith))
