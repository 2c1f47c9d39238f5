use Rattle.std.proofs.Common.{◌≡◌, ◌++◌, map, drop}
use Rattle.std.specs.List.{flat_map}
use Rattle.cad_contracts.specs.Views.{entry_of}
use Rattle.cad_declarations.specs.Views.{mapping_entry_of}
use Rattle.cad_entries.proofs.tables.listed_mappings.Given as goal

abbrev pub invariant-loop-contract : goal.invariant-loop-contract
invariant-loop-contract l =
    map mapping_entry_of l.all.items ++ flat_map (λ c. c.mappings) (map (λ c. entry_of c.now) (drop l.contract-index l.imports)) ≡ flat_map (λ c. c.mappings) (map (λ c. entry_of c.now) l.imports)
