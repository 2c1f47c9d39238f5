use Rattle.std.proofs.Common.{◌≡◌, ◌++◌, map, drop}
use Rattle.cad_contracts.specs.Views.{entry_of}
use Rattle.cad_tables.specs.Views.{with_entry}
use Rattle.cad_tables.specs.Code.Placed.{rest_placed}
use Rattle.cad_tables.proofs.deployed.push_placed.Given as goal

abbrev pub invariant-loop-contract : goal.invariant-loop-contract
invariant-loop-contract l =
    map entry_of l.all.items ++ rest_placed l.is_placed (map entry_of (drop l.contract-index l.contracts)) (entry_of l.new) ≡ with_entry (map entry_of l.contracts) (entry_of l.new)
