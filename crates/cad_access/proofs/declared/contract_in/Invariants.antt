use Rattle.std.proofs.Common.{◌≡◌, drop}
use Rattle.cad_world.specs.Declared.{contract_in}
use Rattle.cad_access.specs.RunContracts.{contracts_of}
use Rattle.cad_access.proofs.declared.contract_in.Given as goal

abbrev pub invariant-loop-contract : goal.invariant-loop-contract
invariant-loop-contract l = contract_in (contracts_of (drop l.contract-index l.contracts)) l.id ≡ contract_in (contracts_of l.contracts) l.id
