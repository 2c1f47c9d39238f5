-- The two look-ups of declarations find one, and a declared type is a resource by its sort.
use Rattle.std.specs.Prelude.{Bool, true, false, Option, Some, None, List, [], ◌∷◌, if◌then◌else◌, map}
use Rattle.std.proofs.Common.{◌≡◌, refl, ap}
use Rattle.cad_syntax.specs.TypeIds.{same_id}
use Rattle.cad_syntax.specs.declared.type_id.TypeId.{TypeId}
use Rattle.cad_types.specs.Declarations.{found, is_resource_sort, resource_in, is_resource_id}
use Rattle.cad_types.specs.declared.declared.Sort.{Sort}
use Rattle.cad_declarations.specs.Members.{type_in}
use Rattle.cad_declarations.specs.Tables.{TypeEntry, ProgramTables}
use Rattle.cad_paths.specs.Fields.{declaration_in, declarations_in, found_entry, sort_of, sort_in}

pub entry_is : (ts : List TypeEntry) (id : TypeId) → type_in ts id ≡ found_entry ts id
entry_is [] id = refl
entry_is (t ∷ ts) id = ap (λ z. if same_id t.id id then Some t else z) (entry_is ts id)

abbrev pub resource_by : Option Sort → Bool
resource_by None = false
resource_by (Some s) = is_resource_sort s

by_first : (t : TypeEntry) (ts : List TypeEntry) (id : TypeId) (q : Bool) → resource_in (found (map declaration_in ts) id) ≡ resource_by (sort_of (found_entry ts id))
    → resource_in (if q then Some (declaration_in t) else found (map declaration_in ts) id) ≡ resource_by (sort_of (if q then Some t else found_entry ts id))
by_first t ts id true others = refl
by_first t ts id false others = others

resource_among : (ts : List TypeEntry) (id : TypeId) → resource_in (found (map declaration_in ts) id) ≡ resource_by (sort_of (found_entry ts id))
resource_among [] id = refl
resource_among (t ∷ ts) id = by_first t ts id (same_id t.id id) (resource_among ts id)

pub resource_is : (tables : ProgramTables) (id : TypeId) → is_resource_id (declarations_in tables) id ≡ resource_by (sort_in tables id)
resource_is tables id = resource_among tables.types id
