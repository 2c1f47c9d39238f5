-- Those that are kept are loaded again, where all are among the sources.
use Rattle.std.specs.Prelude.{ℕ, suc, Bool, true, false, ◌==◌, Option, Some, None, List, [], ◌∷◌, length, if◌then◌else◌}
use Rattle.std.specs.Cmp.Lexicographic.{pointwise}
use Rattle.std.proofs.Common.{◌≡◌, ◌∙◌, refl, ap, sym, subst}
use Rattle.std.proofs.lemmas.Bool.{false≢true}
use Rattle.cad_syntax.specs.TypeIds.{same_id}
use Rattle.cad_syntax.specs.declared.type_id.TypeId.{TypeId}
use Rattle.cad_syntax.proofs.Members.{and_both}
use Rattle.cad_syntax.proofs.Same.{Tells, lists_tell, numbers_tell, ids_tell}
use Rattle.cad_declarations.specs.Imports.{ContractEntry, deployed_contract}
use Rattle.cad_loading.specs.Again.{same_source, left_behind, slots_by, is_none, all_met}
use Rattle.cad_loading.specs.Slots.{loaded_in, IsLoaded}
use Rattle.cad_loads.specs.Loads.{Source, Loaded, Loads, source_of, loaded_as, entries_of}
use Rattle.cad_world.specs.State.{Program}

pub sources_tell : Tells same_source
sources_tell a b = (
  λ e. let both = and_both (same_id a.id b.id) (pointwise ◌==◌ a.code b.code) e in
      let ids = (ids_tell a.id b.id).0 both.0 in
      let codes = (lists_tell ◌==◌ numbers_tell a.code b.code).0 both.1 in
      ap (λ (i : TypeId). record { id = i; code = a.code }) ids ∙ ap (λ (c : List ℕ). record { id = b.id; code = c }) codes,
  λ e. rw ((ids_tell a.id b.id).1 (ap (λ (s : Source). s.id) e), (lists_tell ◌==◌ numbers_tell a.code b.code).1 (ap (λ (s : Source). s.code) e)) refl,
)

as_long : (sources : List Source) (kept : List Loaded) → length (slots_by sources kept) ≡ length sources
as_long [] kept = refl
as_long (s ∷ sources) kept = ap suc (as_long sources (left_behind s kept))

-- it is kept with the program that it is loaded as
kept_as : (s : Source) (c : Loaded) → same_source s (source_of c) ≡ true → loaded_as s c.program ≡ c
kept_as s c h = ap (λ (x : Source). loaded_as x c.program) ((sources_tell s (source_of c)).0 h)

nothing_left : (kept : List Loaded) → is_none kept ≡ true → [] ≡ kept
nothing_left [] h = refl
nothing_left (c ∷ kept) h = absurd (false≢true h)

-- where all that are kept are met, they are those that are loaded
loaded_again : (sources : List Source) (kept : List Loaded) → all_met sources kept ≡ true → loaded_in sources (slots_by sources kept) ≡ kept
loaded_again [] kept h = nothing_left kept h
loaded_again (s ∷ sources) [] h = loaded_again sources [] h
loaded_again (s ∷ sources) (c ∷ kept) h = by_test (same_source s (source_of c)) refl (loaded_again sources kept) (loaded_again sources (c ∷ kept)) h
  where
    by_test : (q : Bool) → same_source s (source_of c) ≡ q
        → (all_met sources kept ≡ true → loaded_in sources (slots_by sources kept) ≡ kept)
        → (all_met sources (c ∷ kept) ≡ true → loaded_in sources (slots_by sources (c ∷ kept)) ≡ c ∷ kept)
        → all_met sources (if q then kept else c ∷ kept) ≡ true
        → loaded_in (s ∷ sources) ((if q then Some c.program else None) ∷ slots_by sources (if q then kept else c ∷ kept)) ≡ c ∷ kept
    by_test true same here there met =
        ap (λ (x : Loaded). x ∷ loaded_in sources (slots_by sources kept)) (kept_as s c same)
        ∙ ap (λ (cs : List Loaded). c ∷ cs) (here met)
    by_test false other here there met = there met

pub kept_loaded : (sources : List Source) (kept : List Loaded) (slots : List (Option Program)) (d : List ContractEntry)
    → Loads kept → all_met sources kept ≡ true → slots ≡ slots_by sources kept → d ≡ entries_of kept → IsLoaded sources slots d
kept_loaded sources kept slots d loads met is entries =
    let same : loaded_in sources slots ≡ kept = ap (loaded_in sources) is ∙ loaded_again sources kept met in
    record {
      many = ap length is ∙ as_long sources kept;
      loads = subst (λ (cs : List Loaded). Loads cs) (sym same) loads;
      alike = λ id. ap (λ (all : List ContractEntry). deployed_contract all id) (entries ∙ ap entries_of (sym same));
    }
