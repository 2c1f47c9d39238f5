use Rattle.std.proofs.Common.{◌≡◌, ◌++◌, map, drop}
use Rattle.std.specs.List.{flat_map}
use Rattle.cad_contracts.specs.Views.{entry_of}
use Rattle.cad_declarations.specs.Deployed.{parent_links_of}
use Rattle.cad_contracts.proofs.links.all_imported_links.Given as goal

abbrev pub invariant-loop-contract : goal.invariant-loop-contract
invariant-loop-contract l =
    l.links.items ++ flat_map parent_links_of (map (λ c. entry_of c.now) (drop l.contract-index l.contracts)) ≡ flat_map parent_links_of (map (λ c. entry_of c.now) l.contracts)
