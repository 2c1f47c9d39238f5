use Rattle.std.proofs.Common.{◌≡◌, ◌++◌, map, drop}
use Rattle.std.specs.Prelude.{filter}
use Rattle.cad_contracts.specs.Views.{entry_of}
use Rattle.cad_types.specs.Declarations.{declaration_of as kind_of}
use Rattle.cad_declarations.specs.Views.{type_entry_of}
use Rattle.cad_declarations.specs.Imports as imp
use Rattle.cad_declarations.specs.Own as own
use Rattle.cad_entries.proofs.known.push_imported_types.Given as goal

abbrev pub invariant-loop-t : goal.invariant-loop-t
invariant-loop-t l =
    map kind_of l.all.items ++ map (λ t. own.named t.id t.sort) (filter (λ t. imp.is_part_of (entry_of l.contract).id t.id) (map type_entry_of (drop l.t-index l.t-items))) ≡ map kind_of l.initial.all.items ++ map (λ t. own.named t.id t.sort) (entry_of l.contract).types
