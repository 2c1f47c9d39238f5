use Rattle.std.proofs.Common.{◌≡◌, ◌++◌, map, drop}
use Rattle.std.specs.Prelude.{filter}
use Rattle.cad_contracts.specs.Views.{entry_of}
use Rattle.cad_declarations.specs.Views.{mapping_entry_of}
use Rattle.cad_declarations.specs.Imports as imp
use Rattle.cad_contracts.proofs.copies.push_copied_mappings.Given as goal

abbrev pub invariant-loop-m : goal.invariant-loop-m
invariant-loop-m l =
    map mapping_entry_of l.all.items ++ filter (λ m. imp.is_part_of (entry_of l.contract).id m.id) (map mapping_entry_of (drop l.m-index l.m-items)) ≡ map mapping_entry_of l.initial.all.items ++ (entry_of l.contract).mappings
