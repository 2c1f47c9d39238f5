use Rattle.std.proofs.Common.{◌≡◌, ◌++◌, drop}
use Rattle.std.specs.List.{flat_map}
use Rattle.cad_world_checks.specs.Identities.{contract_identities}
use Rattle.cad_world_checks.proofs.identities.add_contracts.Given as goal

abbrev pub invariant-loop-contract : goal.invariant-loop-contract
invariant-loop-contract l = l.found ++ flat_map contract_identities (drop l.contract-index l.contracts) ≡ l.fn.found ++ flat_map contract_identities l.contracts
