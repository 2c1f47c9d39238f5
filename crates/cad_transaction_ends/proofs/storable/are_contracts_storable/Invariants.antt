use Rattle.std.proofs.Common.{◌≡◌, drop, map}
use Rattle.std.specs.List.{list_all}
use Rattle.cad_state.specs.Views.{contract_of}
use Rattle.cad_world.specs.Storable.{is_storable}
use Rattle.cad_transaction_ends.proofs.storable.are_contracts_storable.Given as goal

abbrev pub invariant-loop-contract : goal.invariant-loop-contract
invariant-loop-contract l = list_all (λ c. is_storable c.value) (map contract_of (drop l.contract-index l.contracts)) ≡ list_all (λ c. is_storable c.value) (map contract_of l.contracts)
