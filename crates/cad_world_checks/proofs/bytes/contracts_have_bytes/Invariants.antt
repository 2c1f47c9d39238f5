use Rattle.std.proofs.Common.{◌↔◌, map, drop}
use Rattle.std.specs.List.{AllByRecursion}
use Rattle.cad_state.specs.Views.{contract_of}
use Rattle.cad_worlds.specs.Standing.{ContractHasBytes}
use Rattle.cad_world_checks.proofs.bytes.contracts_have_bytes.Given as goal

abbrev pub invariant-loop-contract : goal.invariant-loop-contract
invariant-loop-contract l = AllByRecursion ContractHasBytes (map contract_of (drop l.contract-index l.contracts)) ↔ AllByRecursion ContractHasBytes (map contract_of l.contracts)
