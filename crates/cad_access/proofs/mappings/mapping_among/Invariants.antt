use Rattle.std.proofs.Common.{◌≡◌, drop}
use Rattle.cad_access.specs.RunContracts.{contracts_of, mapping_among}
use Rattle.cad_access.proofs.mappings.mapping_among.Given as goal

abbrev pub invariant-loop-contract : goal.invariant-loop-contract
invariant-loop-contract l = mapping_among (contracts_of (drop l.contract-index l.contracts)) l.id ≡ mapping_among (contracts_of l.contracts) l.id
