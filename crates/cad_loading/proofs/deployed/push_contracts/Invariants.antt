use Rattle.std.proofs.Common.{◌≡◌, ◌++◌, map, drop}
use Rattle.cad_contracts.specs.Views.{entry_of}
use Rattle.cad_loads.specs.Loads.{entries_of, loaded_of}
use Rattle.cad_state.specs.Views.{contract_of}
use Rattle.cad_loading.proofs.deployed.push_contracts.Given as goal

abbrev pub invariant-loop-contract : goal.invariant-loop-contract
invariant-loop-contract l =
    map entry_of l.all.items ++ entries_of (map loaded_of (map contract_of (drop l.contract-index l.contracts))) ≡ map entry_of l.fn.all.items ++ entries_of (map loaded_of (map contract_of l.contracts))
