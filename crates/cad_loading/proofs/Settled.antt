-- What is left when no source can be loaded any more.
use Rattle.std.specs.Prelude.{ℕ, zero, suc, ◌<◌, Bool, true, false, ◌||◌, Option, Some, None, List, [], ◌∷◌, ◌++◌, length, map, option_map, slice_get, if◌then◌else◌}
use Rattle.std.proofs.Common.{◌≡◌, ◌∙◌, refl, ap, sym, subst, ◌⊎◌, inl, inr, arith, append_assoc, append-nil}
use Rattle.std.proofs.lemmas.Bool.{false≢true}
use Rattle.std.proofs.lemmas.List.{length-map}
use Rattle.std.proofs.lemmas.Option.{none-some, same_Some, slice_get-map, slice_get_within}
use Rattle.cad_syntax.specs.TypeIds.{same_id, has}
use Rattle.cad_syntax.specs.declared.type_id.TypeId.{TypeId}
use Rattle.cad_syntax.proofs.Members.{or_right}
use Rattle.cad_syntax.proofs.Same.{ids_tell}
use Rattle.cad_check.specs.Laws.{OneAcceptance}
use Rattle.cad_declarations.specs.Imports.{ContractEntry}
use Rattle.cad_table_laws.specs.Laws.{ImportsAreEnough}
use Rattle.cad_world.specs.State.{Program}
use Rattle.cad_loads.specs.Loads.{Source, Loaded, Loads, source_of, loaded_as, loaded_by, ids_of, entries_of}
use Rattle.cad_loading.specs.Answers.{Loading}
use Rattle.cad_loading.specs.Slots.{loaded_in, gathered, IsLoaded, AreAtRest}
use Rattle.cad_loading.proofs.Places.{found, AreApart, neither_true, at_self, passed_over, has_it, is_other}
use Rattle.cad_loading.proofs.Orders.{stands_alike, apart_of, Meets, all_among}
use Rattle.cad_loading.proofs.Turns.{taken_is}

-- ---- places

at_place : {A : Type 0} (xs : List A) (k : ℕ) → k < length xs → (x : A) × (slice_get xs k ≡ Some x)
at_place [] k h = absurd (omega arith)
at_place (x ∷ xs) zero h = (x, refl)
at_place (x ∷ xs) (suc k) h = at_place xs k (omega arith)

abbrev source_ids : List Source → List TypeId
source_ids sources = map (λ s. s.id) sources

same_ids : (cs : List Loaded) → ids_of cs ≡ source_ids (map source_of cs)
same_ids [] = refl
same_ids (c ∷ cs) = ap (λ (ids : List TypeId). c.id ∷ ids) (same_ids cs)

-- where a contract stands that is found
place_of : (cs : List Loaded) (id : TypeId) (c : Loaded) → found cs id ≡ Some c → (k : ℕ) × (slice_get cs k ≡ Some c)
place_of [] id c h = absurd (none-some c h)
place_of (d ∷ cs) id c h = by_first (same_id d.id id) (place_of cs id c) h
  where
    by_first : (q : Bool) → (found cs id ≡ Some c → (k : ℕ) × (slice_get cs k ≡ Some c)) → (if q then Some d else found cs id) ≡ Some c → (k : ℕ) × (slice_get (d ∷ cs) k ≡ Some c)
    by_first true later k = (0, k)
    by_first false later k = let it = later k in (suc it.0, it.1)

-- ---- sources with identifiers of their own

has_at : (sources : List Source) (k : ℕ) (s : Source) → slice_get sources k ≡ Some s → has (source_ids sources) s.id ≡ true
has_at [] k s h = absurd (none-some s h)
has_at (t ∷ sources) zero s h =
    ap (λ (q : Bool). q || has (source_ids sources) s.id) ((ids_tell t.id s.id).1 (ap (λ (x : Source). x.id) (same_Some t s h)))
has_at (t ∷ sources) (suc k) s h = or_right (same_id t.id s.id) (has (source_ids sources) s.id) (has_at sources k s h)

source_at : (cs : List Loaded) (k : ℕ) (c : Loaded) → slice_get cs k ≡ Some c → slice_get (map source_of cs) k ≡ Some (source_of c)
source_at cs k c h = slice_get-map source_of cs k ∙ ap (option_map source_of) h

found_at : (cs : List Loaded) (k : ℕ) (c : Loaded) → AreApart (source_ids (map source_of cs)) → slice_get cs k ≡ Some c → found cs c.id ≡ Some c
found_at [] k c apart h = absurd (none-some c h)
found_at (d ∷ cs) zero c apart h =
    let e : c ≡ d = sym (same_Some d c h) in
    ap (λ (x : Loaded). found (d ∷ cs) x.id) e ∙ (at_self d cs ∙ ap Some (sym e))
found_at (d ∷ cs) (suc k) c apart h =
    passed_over d cs c.id
    (is_other (source_ids (map source_of cs)) d.id c.id apart.0 (has_at (map source_of cs) k (source_of c) (source_at cs k c h)))
    ∙ found_at cs k c apart.1 h

absent : (sources : List Source) (slots : List (Option Program)) (id : TypeId) → has (source_ids sources) id ≡ false → has (ids_of (loaded_in sources slots)) id ≡ false
absent [] slots id h = refl
absent (s ∷ sources) [] id h = refl
absent (s ∷ sources) (None ∷ slots) id h = absent sources slots id (neither_true (same_id s.id id) (has (source_ids sources) id) h).1
absent (s ∷ sources) (Some p ∷ slots) id h =
    let both = neither_true (same_id s.id id) (has (source_ids sources) id) h in
    ap (λ (q : Bool). q || has (ids_of (loaded_in sources slots)) id) both.0 ∙ absent sources slots id both.1

-- the identifier of a source that is left isn't taken
absent_at : (sources : List Source) (slots : List (Option Program)) (k : ℕ) (s : Source) → AreApart (source_ids sources)
    → slice_get sources k ≡ Some s → slice_get slots k ≡ Some None → has (ids_of (loaded_in sources slots)) s.id ≡ false
absent_at [] slots k s apart h g = refl
absent_at (t ∷ sources) [] k s apart h g = refl
absent_at (t ∷ sources) (None ∷ slots) zero s apart h g =
    ap (λ (x : Source). has (ids_of (loaded_in sources slots)) x.id) (sym (same_Some t s h)) ∙ absent sources slots t.id apart.0
absent_at (t ∷ sources) (Some p ∷ slots) zero s apart h g = absurd (none-some p (sym (same_Some (Some p) None g)))
absent_at (t ∷ sources) (None ∷ slots) (suc k) s apart h g = absent_at sources slots k s apart.1 h g
absent_at (t ∷ sources) (Some p ∷ slots) (suc k) s apart h g =
    ap (λ (q : Bool). q || has (ids_of (loaded_in sources slots)) s.id)
    (is_other (source_ids sources) t.id s.id apart.0 (has_at sources k s h))
    ∙ absent_at sources slots k s apart.1 h g

-- a source that is loaded is found
loaded_at : (sources : List Source) (slots : List (Option Program)) (k : ℕ) (s : Source) (p : Program) → AreApart (source_ids sources)
    → slice_get sources k ≡ Some s → slice_get slots k ≡ Some (Some p) → found (loaded_in sources slots) s.id ≡ Some (loaded_as s p)
loaded_at [] slots k s p apart h g = absurd (none-some s h)
loaded_at (t ∷ sources) [] k s p apart h g = absurd (none-some (Some p) g)
loaded_at (t ∷ sources) (None ∷ slots) zero s p apart h g = absurd (none-some p (same_Some None (Some p) g))
loaded_at (t ∷ sources) (Some q ∷ slots) zero s p apart h g =
    let e : t ≡ s = same_Some t s h in
    let f : q ≡ p = same_Some q p (same_Some (Some q) (Some p) g) in
    ap (λ (x : Source). found (loaded_as t q ∷ loaded_in sources slots) x.id) (sym e)
    ∙ (at_self (loaded_as t q) (loaded_in sources slots) ∙ (ap (λ (x : Source). Some (loaded_as x q)) e ∙ ap (λ (y : Program). Some (loaded_as s y)) f))
loaded_at (t ∷ sources) (None ∷ slots) (suc k) s p apart h g = loaded_at sources slots k s p apart.1 h g
loaded_at (t ∷ sources) (Some q ∷ slots) (suc k) s p apart h g =
    passed_over (loaded_as t q) (loaded_in sources slots) s.id (is_other (source_ids sources) t.id s.id apart.0 (has_at sources k s h))
    ∙ loaded_at sources slots k s p apart.1 h g

-- ---- where a source is left

module _ (acceptance : OneAcceptance) (enough : ImportsAreEnough) (cs : List Loaded) (slots : List (Option Program)) (d : List ContractEntry)
    (x : IsLoaded (map source_of cs) slots d) (rests : AreAtRest d (map source_of cs) slots) (loads : Loads cs) where
  apart : AreApart (source_ids (map source_of cs))
  apart = subst AreApart (same_ids cs) (apart_of loads)

  as_long : length slots ≡ length cs
  as_long = x.many ∙ length-map cs source_of

  meets_at : (k : ℕ) (c : Loaded) → slice_get cs k ≡ Some c → (o : Option Program) → slice_get slots k ≡ Some o → Meets (loaded_in (map source_of cs) slots) c
  meets_at k c h (Some p) g = inl (loaded_as (source_of c) p, loaded_at (map source_of cs) slots k (source_of c) p apart (source_at cs k c h) g, refl)
  meets_at k c h None g =
      inr (λ s. rests k (source_of c) (source_at cs k c h) g
      (taken_is d (loaded_in (map source_of cs) slots) x.alike c.id ∙ absent_at (map source_of cs) slots k (source_of c) apart (source_at cs k c h) g)
      c.program (stands_alike (entries_of (loaded_in (map source_of cs) slots)) d (λ id. sym (x.alike id)) c s))

  meets : (id : TypeId) (c : Loaded) → found cs id ≡ Some c → Meets (loaded_in (map source_of cs) slots) c
  meets id c h =
      let at = place_of cs id c h in
      let less = slice_get_within cs at.0 c at.1 in
      let same = as_long in
      let slot = at_place slots at.0 (omega arith) in
      meets_at at.0 c at.1 slot.0 slot.1

  left_at : (k : ℕ) (c : Loaded) → slice_get cs k ≡ Some c → slice_get slots k ≡ Some None → ⊥
  left_at k c h g =
      let all = all_among acceptance enough (loaded_in (map source_of cs) slots) x.loads loads meets in
      false≢true (sym (absent_at (map source_of cs) slots k (source_of c) apart (source_at cs k c h) g)
      ∙ has_it (loaded_in (map source_of cs) slots) c.id c (all c.id c (found_at cs k c apart h)))

  none_left : (k : ℕ) → slice_get slots k ≡ Some None → ⊥
  none_left k g =
      let less = slice_get_within slots k None g in
      let same = as_long in
      let it = at_place cs k (omega arith) in
      left_at k it.0 it.1 g

never_loaded : OneAcceptance → ImportsAreEnough → (sources : List Source) (slots : List (Option Program)) (d : List ContractEntry) → IsLoaded sources slots d → AreAtRest d sources slots
    → (k : ℕ) → slice_get slots k ≡ Some None → (cs : List Loaded) → map source_of cs ≡ sources → Loads cs → ⊥
never_loaded acceptance enough sources slots d x rests k g cs same loads =
    none_left acceptance enough cs slots d (subst (λ (ss : List Source). IsLoaded ss slots d) (sym same) x) (subst (λ (ss : List Source). AreAtRest d ss slots) (sym same) rests) loads k g

-- ---- the programs of all sources

loaded_whole : (sources : List Source) (programs : List Program) → loaded_in sources (map (λ (p : Program). Some p) programs) ≡ loaded_by sources programs
loaded_whole [] programs = refl
loaded_whole (s ∷ sources) [] = refl
loaded_whole (s ∷ sources) (p ∷ programs) = ap (λ (cs : List Loaded). loaded_as s p ∷ cs) (loaded_whole sources programs)

-- each slot has a program, or one has none
abbrev Gathered : List Program → List (Option Program) → Type 0
Gathered front slots =
    ((programs : List Program) × (slots ≡ map (λ (p : Program). Some p) programs) × (gathered front slots ≡ Some (front ++ programs)))
    ⊎ ((k : ℕ) × (slice_get slots k ≡ Some None) × (gathered front slots ≡ None))

gathered_is : (front : List Program) (slots : List (Option Program)) → Gathered front slots
gathered_is front [] = inl ([], refl, ap Some (sym (append-nil front)))
gathered_is front (None ∷ slots) = inr (0, refl, refl)
gathered_is front (Some p ∷ slots) = by_rest (gathered_is (front ++ p ∷ []) slots)
  where
    by_rest : Gathered (front ++ p ∷ []) slots → Gathered front (Some p ∷ slots)
    by_rest (inl whole) =
        inl (p ∷ whole.0, ap (λ (all : List (Option Program)). Some p ∷ all) whole.1, whole.2 ∙ ap Some (append_assoc front (p ∷ []) whole.0))
    by_rest (inr gap) = inr (suc gap.0, gap.1, gap.2)

pub settled : OneAcceptance → ImportsAreEnough → (sources : List Source) (slots : List (Option Program)) (d : List ContractEntry) → IsLoaded sources slots d → AreAtRest d sources slots
    → Loading sources (gathered [] slots)
settled acceptance enough sources slots d x rests = by_slots (gathered_is [] slots)
  where
    by_slots : Gathered [] slots → Loading sources (gathered [] slots)
    by_slots (inl whole) =
        subst (Loading sources) (sym whole.2) (
          sym (length-map whole.0 (λ (p : Program). Some p)) ∙ (ap length (sym whole.1) ∙ x.many),
          subst (λ (cs : List Loaded). Loads cs) (ap (loaded_in sources) whole.1 ∙ loaded_whole sources whole.0) x.loads,
        )
    by_slots (inr gap) =
        subst (Loading sources) (sym gap.2) (λ cs same loads. never_loaded acceptance enough sources slots d x rests gap.0 gap.1 cs same loads)
