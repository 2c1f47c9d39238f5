-- What is found by its place.
use Rattle.std.proofs.Common.{◌≡◌, ◌||◌, ℕ, suc, Bool, true, false, Option, Some, None, option_map, find, List, [], ◌∷◌, map, cond, refl}
use Rattle.cad_syntax.specs.TypeIds.{has, same_id}
use Rattle.cad_syntax.specs.declared.type_id.TypeId.{TypeId}
use Rattle.cad_types.specs.Places.{place_in}
use Rattle.cad_declarations.specs.Members.{mapping_in_entries, type_in}
use Rattle.cad_declarations.specs.MemberViews.{mapping_entry_of, type_entry_of}
use Rattle.cad_declarations.specs.Reached.{linked}
use Rattle.cad_declarations.specs.Code.Visits.{targets}
use Rattle.cad_declarations.specs.declared.link.Link.{Link}
use Rattle.cad_declarations.specs.declared.tables.MappingDeclaration.{MappingDeclaration}
use Rattle.cad_declarations.specs.declared.tables.TypeDeclaration.{TypeDeclaration}

pub linked_first : (links : List Link) (id : TypeId) → linked links id ≡ targets (find (λ l. same_id l.id id) links)
linked_first [] id = refl
linked_first (l ∷ links) id = go (same_id l.id id) (linked_first links id)
  where
    go : (b : Bool) → linked links id ≡ targets (find (λ x. same_id x.id id) links) → cond b l.to (linked links id) ≡ targets (cond b (Some l) (find (λ x. same_id x.id id) links))
    go true rest = refl
    go false rest = rest

pub type_first : (types : List TypeDeclaration) (id : TypeId) → type_in (map type_entry_of types) id ≡ option_map type_entry_of (find (λ t. same_id t.id id) types)
type_first [] id = refl
type_first (t ∷ types) id = go (same_id t.id id) (type_first types id)
  where
    go : (b : Bool) → type_in (map type_entry_of types) id ≡ option_map type_entry_of (find (λ x. same_id x.id id) types)
        → cond b (Some (type_entry_of t)) (type_in (map type_entry_of types) id) ≡ option_map type_entry_of (cond b (Some t) (find (λ x. same_id x.id id) types))
    go true rest = refl
    go false rest = rest

pub mapping_first : (mappings : List MappingDeclaration) (id : TypeId) → mapping_in_entries (map mapping_entry_of mappings) id ≡ option_map (λ m. m.mapping) (find (λ m. same_id m.id id) mappings)
mapping_first [] id = refl
mapping_first (m ∷ mappings) id = go (same_id m.id id) (mapping_first mappings id)
  where
    go : (b : Bool) → mapping_in_entries (map mapping_entry_of mappings) id ≡ option_map (λ m. m.mapping) (find (λ x. same_id x.id id) mappings)
        → option_map (λ m. m.mapping) (cond b (Some (mapping_entry_of m)) (find (λ x. same_id x.id id) (map mapping_entry_of mappings)))
        ≡ option_map (λ m. m.mapping) (cond b (Some m) (find (λ x. same_id x.id id) mappings))
    go true rest = refl
    go false rest = rest

-- what has a place is there, and what has none isn't
pub has_there : (ids : List TypeId) (id : TypeId) (place : ℕ) → place_in ids id ≡ Some place → has ids id ≡ true
has_there [] id place e = cc
has_there (other ∷ ids) id place e = go (same_id other id) (place_in ids id) (has_there ids id) e
  where
    go : (b : Bool) (o : Option ℕ) → ((p : ℕ) → o ≡ Some p → has ids id ≡ true) → cond b (Some 0) (option_map suc o) ≡ Some place → (b || has ids id) ≡ true
    go true o rest e = refl
    go false None rest e = cc
    go false (Some p) rest e = rest p refl

pub has_nowhere : (ids : List TypeId) (id : TypeId) → place_in ids id ≡ None → has ids id ≡ false
has_nowhere [] id e = refl
has_nowhere (other ∷ ids) id e = go (same_id other id) (place_in ids id) (has_nowhere ids id) e
  where
    go : (b : Bool) (o : Option ℕ) → (o ≡ None → has ids id ≡ false) → cond b (Some 0) (option_map suc o) ≡ None → (b || has ids id) ≡ false
    go true o rest e = cc
    go false None rest e = rest refl
    go false (Some p) rest e = cc
