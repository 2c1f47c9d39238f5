use Rattle.std.proofs.Common.{◌≡◌, ◌++◌, map, drop}
use Rattle.std.specs.Prelude.{filter}
use Rattle.cad_contracts.specs.Views.{entry_of}
use Rattle.cad_declarations.specs.Views.{mapping_entry_of}
use Rattle.cad_declarations.specs.Imports as imp
use Rattle.cad_entries.proofs.known.push_imported_mappings.Given as goal

abbrev pub invariant-loop-m : goal.invariant-loop-m
invariant-loop-m l =
    map (λ m. m.id) l.all.items ++ map (λ m. m.id) (filter (λ m. imp.is_part_of (entry_of l.contract).id m.id) (map mapping_entry_of (drop l.m-index l.m-items))) ≡ map (λ m. m.id) l.initial.all.items ++ map (λ m. m.id) (entry_of l.contract).mappings
