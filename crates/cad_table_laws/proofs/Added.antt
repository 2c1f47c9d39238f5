-- A contract that is added changes no type that was there.
use Rattle.std.specs.Prelude.{Bool, true, false, ◌||◌, List, [], ◌∷◌, ◌++◌, map, flat_map, if◌then◌else◌}
use Rattle.std.proofs.Common.{◌≡◌, ◌∙◌, refl, ap, sym, subst, append-nil}
use Rattle.std.proofs.lemmas.Bool.{false≢true}
use Rattle.std.proofs.lemmas.Grind.{flat_map-append}
use Rattle.std.proofs.lemmas.List.{map-append}
use Rattle.cad_syntax.specs.TypeIds.{same_id, has}
use Rattle.cad_syntax.specs.declared.type_id.TypeId.{TypeId}
use Rattle.cad_declarations.specs.Deployed.{parent_links_of, linked_type, deployed_types}
use Rattle.cad_declarations.specs.Imports.{ContractEntry}
use Rattle.cad_declarations.specs.Reached.{linked, reached_from, linearised}
use Rattle.cad_declarations.specs.Tables.{TypeEntry}
use Rattle.cad_declarations.specs.declared.link.Link.{Link}
use Rattle.cad_table_laws.specs.Laws.{ids_of, all_types, all_parents, AddingChangesNothing}
use Rattle.cad_table_laws.proofs.Reaching.{Has, Within, at_head, in_tail, closed_from, holds_start, reached_inside, agree_from}

-- of types that don't have the identifier no link leads on
leads_nowhere : (types : List TypeEntry) (id : TypeId) → has (ids_of types) id ≡ false → linked (map (λ (t : TypeEntry). record { id = t.id; to = t.parents }) types) id ≡ []
leads_nowhere [] id lacks = refl
leads_nowhere (t ∷ types) id lacks = by_first (same_id t.id id) (leads_nowhere types id) lacks
  where
    by_first : (q : Bool) → (has (ids_of types) id ≡ false → linked (map (λ (u : TypeEntry). record { id = u.id; to = u.parents }) types) id ≡ [])
        → (q || has (ids_of types) id) ≡ false
        → (if q then t.parents else linked (map (λ (u : TypeEntry). record { id = u.id; to = u.parents }) types) id) ≡ []
    by_first true others h = absurd (false≢true (sym h))
    by_first false others h = others h

-- links behind those that are there count only for what has none
linked_behind : (links more : List Link) (id : TypeId) → linked more id ≡ [] → linked (links ++ more) id ≡ linked links id
linked_behind [] more id none = none
linked_behind (l ∷ links) more id none = ap (λ (ids : List TypeId). if same_id l.id id then l.to else ids) (linked_behind links more id none)

module _ (before : List ContractEntry) (new : ContractEntry)
    (apart : (id : TypeId) → has (ids_of new.types) id ≡ true → has (reached_from (all_parents before) (ids_of (all_types before))) id ≡ false) where
  links_are : all_parents (before ++ new ∷ []) ≡ all_parents before ++ (parent_links_of new ++ [])
  links_are = flat_map-append parent_links_of before (new ∷ [])

  -- what is there leads where it led
  same_link : (id : TypeId) → Has (reached_from (all_parents before) (ids_of (all_types before))) id
      → linked (all_parents before) id ≡ linked (all_parents (before ++ new ∷ [])) id
  same_link id h = sym (
      ap (λ (links : List Link). linked links id) links_are
      ∙ (ap (λ (links : List Link). linked (all_parents before ++ links) id) (append-nil (parent_links_of new))
      ∙ linked_behind (all_parents before) (parent_links_of new) id (leads_nowhere new.types id (by_test (has (ids_of new.types) id) refl))))
    where
      by_test : (q : Bool) → has (ids_of new.types) id ≡ q → q ≡ false
      by_test true k = absurd (false≢true (sym (apart id k) ∙ h))
      by_test false k = refl

  same_linearised : (id : TypeId) → Has (ids_of (all_types before)) id → linearised (all_parents before) id ≡ linearised (all_parents (before ++ new ∷ [])) id
  same_linearised id h =
      let there = holds_start (all_parents before) (ids_of (all_types before)) id h in
      let inside : Within (reached_from (all_parents before) (linked (all_parents before) id)) (reached_from (all_parents before) (ids_of (all_types before))) =
      within_all (linked (all_parents before) id) (closed_from (all_parents before) (ids_of (all_types before)) id there) in
      agree_from (all_parents before) (all_parents (before ++ new ∷ [])) (linked (all_parents before) id) (λ x k. same_link x (inside x k))
      ∙ ap (reached_from (all_parents (before ++ new ∷ []))) (same_link id there)
    where
      within_all : (some : List TypeId) → Within some (reached_from (all_parents before) (ids_of (all_types before)))
          → Within (reached_from (all_parents before) some) (reached_from (all_parents before) (ids_of (all_types before)))
      within_all some inside = reached_inside (all_parents before) some (ids_of (all_types before)) inside

  same_types : (types : List TypeEntry) → Within (ids_of types) (ids_of (all_types before))
      → map (linked_type (all_parents (before ++ new ∷ []))) types ≡ map (linked_type (all_parents before)) types
  same_types [] inside = refl
  same_types (t ∷ types) inside =
      ap (λ (ids : List TypeId). record t { interfaces = ids } ∷ map (linked_type (all_parents (before ++ new ∷ []))) types)
      (sym (same_linearised t.id (inside t.id (at_head t.id (ids_of types)))))
      ∙ ap (λ (rest : List TypeEntry). linked_type (all_parents before) t ∷ rest) (same_types types (λ id h. inside id (in_tail t.id (ids_of types) id h)))

  added : deployed_types (before ++ new ∷ []) ≡ deployed_types before ++ map (linked_type (all_parents (before ++ new ∷ []))) new.types
  added =
      ap (map (linked_type (all_parents (before ++ new ∷ [])))) (flat_map-append (λ (c : ContractEntry). c.types) before (new ∷ []))
      ∙ (map-append (linked_type (all_parents (before ++ new ∷ []))) (all_types before) (new.types ++ [])
      ∙ (ap (λ (types : List TypeEntry). map (linked_type (all_parents (before ++ new ∷ []))) (all_types before) ++ map (linked_type (all_parents (before ++ new ∷ []))) types) (append-nil new.types)
      ∙ ap (λ (front : List TypeEntry). front ++ map (linked_type (all_parents (before ++ new ∷ []))) new.types) (same_types (all_types before) (λ id h. h))))

pub added_aside : AddingChangesNothing
added_aside before new apart = added before new apart
