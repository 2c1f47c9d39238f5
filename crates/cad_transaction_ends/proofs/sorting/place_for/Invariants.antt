use Rattle.std.proofs.Common.{◌≡◌, ◌+◌, drop, map}
use Rattle.cad_state.specs.Views.{contract_of}
use Rattle.cad_transaction_ends.specs.Code.Sorting.{place_in}
use Rattle.cad_world.specs.Orders.{contract_before}
use Rattle.cad_transaction_ends.proofs.sorting.place_for.Given as goal

abbrev pub invariant-loop-i : goal.invariant-loop-i
invariant-loop-i l =
    l.i + place_in contract_before (contract_of l.contract) (map contract_of (drop l.i l.sorted)) ≡ place_in contract_before (contract_of l.contract) (map contract_of l.sorted)
