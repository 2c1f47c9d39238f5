use Rattle.std.proofs.Common.{◌≡◌, ◌++◌, map, drop}
use Rattle.std.specs.Prelude.{filter_map}
use Rattle.cad_contracts.specs.Views.{entry_of}
use Rattle.cad_declarations.specs.Imports as imp
use Rattle.cad_contracts.proofs.contracts.found_contracts.Given as goal

abbrev pub invariant-loop-id : goal.invariant-loop-id
invariant-loop-id l =
    map (λ c. entry_of c.now) l.found.items ++ filter_map (imp.deployed_contract (map entry_of l.contracts)) (drop l.id-index l.ids) ≡ filter_map (imp.deployed_contract (map entry_of l.contracts)) l.ids
