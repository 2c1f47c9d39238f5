use Rattle.std.proofs.Common.{◌≡◌, map}
use Rattle.cad_state.specs.Views.{contract_of}
use Rattle.cad_transaction_ends.proofs.Order.{sorted_onto}
use Rattle.cad_world.specs.Orders.{contract_before, sorted_in}
use Rattle.cad_transaction_ends.proofs.sorting.sort_contracts.Given as goal

abbrev pub invariant-loop-contract : goal.invariant-loop-contract
invariant-loop-contract l =
    sorted_onto contract_before (map contract_of l.contracts.items) (map contract_of l.sorted.items) ≡ sorted_in contract_before (map contract_of l.fn.contracts.items)

abbrev pub decreases-loop-contract : goal.decreases-loop-contract
decreases-loop-contract l = goal.left-loop-contract l
