use Rattle.std.proofs.Common.{◌≡◌, ◌++◌, map, drop}
use Rattle.std.specs.List.{flat_map}
use Rattle.cad_contracts.specs.Views.{entry_of}
use Rattle.cad_declarations.specs.Views.{type_entry_of}
use Rattle.cad_declarations.specs.Deployed.{linked_type}
use Rattle.cad_entries.proofs.tables.linked_types.Given as goal

abbrev pub invariant-loop-contract : goal.invariant-loop-contract
invariant-loop-contract l =
    map type_entry_of l.all.items ++ map (linked_type l.links) (flat_map (λ c. c.types) (map (λ c. entry_of c.now) (drop l.contract-index l.contracts))) ≡ map (linked_type l.links) (flat_map (λ c. c.types) (map (λ c. entry_of c.now) l.contracts))
