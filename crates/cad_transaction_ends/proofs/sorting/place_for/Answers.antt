use Rattle.std.proofs.Common.{◌+◌, sym, ◌∙◌, arith}
use Rattle.cad_state.specs.Views.{contract_of}
use Rattle.cad_transaction_ends.proofs.Order.{found, passed, not_found}
use Rattle.cad_world.specs.Orders.{contract_before}
use Rattle.cad_transaction_ends.proofs.sorting.place_for.Goals as goal

pub returns-then-comes : goal.returns-then-comes
returns-then-comes c =
    found contract_of contract_before (contract_of c.args.contract.now) c.index-sorted-i.result c.args.sorted.now c.loop-i.i (omega (arith, c.loop-i-test.true)) c.index-sorted-i.is
    (sym c.in-Ok.ensures ∙ c.if-comes.true) c.loop-i.invariant

pub loop-i-preserved : goal.loop-i-preserved
loop-i-preserved c =
    passed contract_of contract_before (contract_of c.args.contract.now) c.index-sorted-i.result c.args.sorted.now c.loop-i.i (c.loop-i.i + 1) (omega arith) (omega (arith, c.loop-i-test.true)) c.index-sorted-i.is
    (sym c.in-Ok.ensures ∙ c.if-comes.false) c.loop-i.invariant

pub returns : goal.returns
returns c =
    not_found contract_of contract_before (contract_of c.args.contract.now) c.args.sorted.now c.loop-i.i (omega (arith, c.loop-i-test.false)) c.loop-i.invariant
