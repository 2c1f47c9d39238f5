-- The types of tables are closed.
use Rattle.std.specs.Prelude.{Option, option_to_list, List, ◌++◌, flat_map, map}
use Rattle.std.proofs.Common.{◌≡◌, sym, subst}
use Rattle.cad_types.specs.Declarations.{IsClosed}
use Rattle.cad_declarations.specs.Deployed.{linked_type}
use Rattle.cad_declarations.specs.Entries.{types_in}
use Rattle.cad_declarations.specs.Kinds.{declaration_of}
use Rattle.cad_declarations.specs.Own.{OwnContract}
use Rattle.cad_declarations.specs.Scopes.{Scope}
use Rattle.cad_declarations.specs.Tables.{TypeEntry}
use Rattle.cad_declarations.specs.declared.link.Link.{Link}
use Rattle.cad_entries.proofs.Linked.{AreLinked, both, copies_linked, own_linked, linked_closed}

-- those of a program and its imports
pub tables_closed : (scope : Scope) (links : List Link) (own : Option OwnContract) (imported types : List TypeEntry)
    → types ≡ map (linked_type links) imported ++ flat_map (types_in scope links) (option_to_list own) → IsClosed (map declaration_of types)
tables_closed scope links own imported types is =
    let P : List TypeEntry → Type 0 = λ all. AreLinked links all in
    linked_closed links types (subst P (sym is) (both links (map (linked_type links) imported) (flat_map (types_in scope links) (option_to_list own)) (copies_linked links imported) (own_linked scope links own)))

-- those of deployed contracts
pub deployed_closed : (links : List Link) (deployed types : List TypeEntry) → types ≡ map (linked_type links) deployed → IsClosed (map declaration_of types)
deployed_closed links deployed types is =
    let P : List TypeEntry → Type 0 = λ all. AreLinked links all in
    linked_closed links types (subst P (sym is) (copies_linked links deployed))
