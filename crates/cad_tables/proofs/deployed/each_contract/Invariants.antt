use Rattle.std.proofs.Common.{◌≡◌, ◌++◌, map, drop}
use Rattle.cad_contracts.specs.Views.{entry_of}
use Rattle.cad_tables.proofs.deployed.each_contract.Given as goal

abbrev pub invariant-loop-contract : goal.invariant-loop-contract
invariant-loop-contract l =
    map (λ c. entry_of c.now) l.all.items ++ map entry_of (drop l.contract-index l.contracts) ≡ map entry_of l.contracts
