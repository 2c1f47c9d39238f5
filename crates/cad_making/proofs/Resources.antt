-- Which declared types are resources, by what contracts declare.
use Rattle.std.proofs.Common.{◌≡◌, Bool, true, false, cond, List, [], ◌∷◌, map, Option, Some, None, find, refl}
use Rattle.cad_syntax.specs.TypeIds.{same_id}
use Rattle.cad_syntax.specs.declared.type_id.TypeId.{TypeId}
use Rattle.cad_types.specs.Declarations.{found, resource_in, is_resource_sort, is_resource_id}
use Rattle.cad_declarations.specs.Kinds.{declaration_of}
use Rattle.cad_declarations.specs.Tables.{TypeEntry}
use Rattle.cad_world.specs.Declared.{declarations, entry_of, types_of}
use Rattle.cad_world.specs.State.{State}

-- the sort of what is declared
abbrev pub of_entry : Option TypeEntry → Bool
of_entry None = false
of_entry (Some entry) = is_resource_sort entry.sort

found_entry : (id : TypeId) (all : List TypeEntry) → resource_in (found (map declaration_of all) id) ≡ of_entry (find (λ entry. same_id entry.id id) all)
found_entry id [] = refl
found_entry id (x ∷ all) = go (same_id x.id id) (found_entry id all)
  where
    go : (b : Bool) → resource_in (found (map declaration_of all) id) ≡ of_entry (find (λ entry. same_id entry.id id) all)
        → resource_in (cond b (Some (declaration_of x)) (found (map declaration_of all) id)) ≡ of_entry (cond b (Some x) (find (λ entry. same_id entry.id id) all))
    go true rest = refl
    go false rest = rest

pub resource_entry : (s : State) (id : TypeId) → is_resource_id (declarations s) id ≡ of_entry (entry_of s id)
resource_entry s id = found_entry id (types_of s.contracts)
