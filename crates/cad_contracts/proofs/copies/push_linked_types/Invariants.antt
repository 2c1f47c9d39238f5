use Rattle.std.proofs.Common.{◌≡◌, ◌++◌, map, drop}
use Rattle.std.specs.Prelude.{filter}
use Rattle.cad_contracts.specs.Views.{entry_of}
use Rattle.cad_declarations.specs.Views.{type_entry_of}
use Rattle.cad_declarations.specs.Deployed.{linked_type}
use Rattle.cad_declarations.specs.Imports as imp
use Rattle.cad_contracts.proofs.copies.push_linked_types.Given as goal

abbrev pub invariant-loop-t : goal.invariant-loop-t
invariant-loop-t l =
    map type_entry_of l.all.items ++ map (linked_type l.links) (filter (λ t. imp.is_part_of (entry_of l.contract).id t.id) (map type_entry_of (drop l.t-index l.t-items))) ≡ map type_entry_of l.initial.all.items ++ map (linked_type l.links) (entry_of l.contract).types
