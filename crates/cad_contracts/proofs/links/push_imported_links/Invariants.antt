use Rattle.std.proofs.Common.{◌≡◌, ◌++◌, map, drop}
use Rattle.std.specs.Prelude.{filter}
use Rattle.cad_contracts.specs.Views.{entry_of}
use Rattle.cad_declarations.specs.Views.{type_entry_of}
use Rattle.cad_declarations.specs.Deployed.{parent_links_of}
use Rattle.cad_declarations.specs.Tables.{TypeEntry}
use Rattle.cad_declarations.specs.declared.link.Link.{Link}
use Rattle.cad_declarations.specs.Imports as imp
use Rattle.cad_contracts.proofs.links.push_imported_links.Given as goal

-- to the interfaces that a type names
abbrev parent_link : TypeEntry → Link
parent_link t = record { id = t.id; to = t.parents }

abbrev pub invariant-loop-t : goal.invariant-loop-t
invariant-loop-t l =
    l.links.items ++ map parent_link (filter (λ t. imp.is_part_of (entry_of l.contract).id t.id) (map type_entry_of (drop l.t-index l.t-items))) ≡ l.initial.links.items ++ parent_links_of (entry_of l.contract)
