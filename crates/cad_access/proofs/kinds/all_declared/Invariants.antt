use Rattle.std.proofs.Common.{◌≡◌, ◌++◌, map, drop}
use Rattle.cad_types.specs.Declarations.{declaration_of as kind_of}
use Rattle.cad_access.specs.RunContracts.{contracts_of, kinds_among}
use Rattle.cad_access.proofs.kinds.all_declared.Given as goal

abbrev pub invariant-loop-contract : goal.invariant-loop-contract
invariant-loop-contract l = map kind_of l.all.items ++ kinds_among (contracts_of (drop l.contract-index l.contracts)) ≡ kinds_among (contracts_of l.contracts)
