use Rattle.std.proofs.Common.{◌≡◌, drop}
use Rattle.cad_access.specs.RunContracts.{contracts_of, entry_among}
use Rattle.cad_access.proofs.declared.entry_among.Given as goal

abbrev pub invariant-loop-contract : goal.invariant-loop-contract
invariant-loop-contract l = entry_among (contracts_of (drop l.contract-index l.contracts)) l.id ≡ entry_among (contracts_of l.contracts) l.id
