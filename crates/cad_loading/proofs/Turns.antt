-- Sources that are loaded, one by one and pass by pass.
use Rattle.std.specs.Prelude.{ℕ, zero, suc, ◌+◌, ◌<◌, ◌≤◌, Bool, true, false, ◌||◌, Option, Some, None, List, [], ◌∷◌, ◌++◌, length, map, set, option_map, slice_get, if◌then◌else◌}
use Rattle.std.specs.Option.{is_some, option_or}
use Rattle.std.proofs.Common.{◌≡◌, ◌∙◌, refl, ap, sym, subst, arith}
use Rattle.std.proofs.lemmas.Bool.{false≢true}
use Rattle.std.proofs.lemmas.List.{length-set}
use Rattle.std.proofs.lemmas.Option.{none-some, same_Some, slice_get_within}
use borrow.Author.Count.{below_more}
use Rattle.cad_syntax.specs.TypeIds.{same_id, has}
use Rattle.cad_syntax.specs.declared.type_id.TypeId.{TypeId}
use Rattle.cad_syntax.proofs.Same.{ids_tell}
use Rattle.cad_declarations.specs.Imports.{ContractEntry, deployed_contract, is_deployed}
use Rattle.cad_world.specs.State.{Program}
use Rattle.cad_loads.specs.Loads.{Source, Loaded, Stands, Loads, none, one, loaded_as, ids_of, entry_of, entries_of}
use Rattle.cad_loading.specs.Slots.{Standing, loaded_in, is_gap, gaps, no_programs, AreAlike, IsLoaded, RestsAt, AreAtRest, ComesOn, Tried, Passed}
use Rattle.cad_loading.proofs.Places.{found, found_new, found_other, has_found, entry_found}
use Rattle.cad_loading.proofs.Orders.{stands_alike}

-- ---- nothing is loaded

nothing_in : {X : Type 0} (view : X → Source) (xs : List X) → loaded_in (map view xs) (no_programs xs) ≡ []
nothing_in view [] = refl
nothing_in view (x ∷ xs) = nothing_in view xs

as_many : {X : Type 0} (view : X → Source) (xs : List X) → length (no_programs xs) ≡ length (map view xs)
as_many view [] = refl
as_many view (x ∷ xs) = ap suc (as_many view xs)

pub begins : {X : Type 0} (view : X → Source) (xs : List X) (slots : List (Option Program)) (d : List ContractEntry) → slots ≡ no_programs xs → d ≡ [] → IsLoaded (map view xs) slots d
begins view xs slots d e f = record {
  many = ap length e ∙ as_many view xs;
  loads = subst (λ (cs : List Loaded). Loads cs) (sym (ap (loaded_in (map view xs)) e ∙ nothing_in view xs)) none;
  alike = λ id. ap (λ (all : List ContractEntry). deployed_contract all id) (f ∙ ap entries_of (sym (ap (loaded_in (map view xs)) e ∙ nothing_in view xs)));
}

-- ---- a source that is loaded

-- the loaded ones, around the source in a place
record Around (sources : List Source) (slots : List (Option Program)) (at : ℕ) (c : Loaded) : Type 0 where
  before : List Loaded
  after : List Loaded
  was : loaded_in sources slots ≡ before ++ after
  is : loaded_in sources (set slots at (Some c.program)) ≡ before ++ c ∷ after

around : (sources : List Source) (slots : List (Option Program)) (at : ℕ) (s : Source) (p : Program)
    → slice_get sources at ≡ Some s → slice_get slots at ≡ Some None → Around sources slots at (loaded_as s p)
around [] slots at s p h k = absurd (none-some s h)
around (t ∷ sources) [] at s p h k = absurd (none-some None k)
around (t ∷ sources) (None ∷ slots) zero s p h k = record {
  before = [];
  after = loaded_in sources slots;
  was = refl;
  is = ap (λ (x : Source). loaded_as x p ∷ loaded_in sources slots) (same_Some t s h);
}
around (t ∷ sources) (Some q ∷ slots) zero s p h k = absurd (none-some q (sym (same_Some (Some q) None k)))
around (t ∷ sources) (None ∷ slots) (suc at) s p h k =
    let rest = around sources slots at s p h k in
    record { before = rest.before; after = rest.after; was = rest.was; is = rest.is }
around (t ∷ sources) (Some q ∷ slots) (suc at) s p h k =
    let rest = around sources slots at s p h k in
    record {
      before = loaded_as t q ∷ rest.before;
      after = rest.after;
      was = ap (λ (cs : List Loaded). loaded_as t q ∷ cs) rest.was;
      is = ap (λ (cs : List Loaded). loaded_as t q ∷ cs) rest.is;
    }

some_map : {A B : Type 0} (f : A → B) (o : Option A) → is_some (option_map f o) ≡ is_some o
some_map f None = refl
some_map f (Some a) = refl

or_none : {A : Type 0} (o : Option A) → option_or o None ≡ o
or_none None = refl
or_none (Some a) = refl

none_is : {A : Type 0} (o : Option A) → is_some o ≡ false → o ≡ None
none_is None h = refl
none_is (Some a) h = absurd (false≢true (sym h))

-- an identifier is taken by what is loaded
pub taken_is : (d : List ContractEntry) (cs : List Loaded) → AreAlike d (entries_of cs) → (id : TypeId) → is_deployed d id ≡ has (ids_of cs) id
taken_is d cs alike id = ap is_some (alike id ∙ entry_found cs id) ∙ (some_map entry_of (found cs id) ∙ sym (has_found cs id))

at_end : (d : List ContractEntry) (e : ContractEntry) (id : TypeId) → deployed_contract (d ++ e ∷ []) id ≡ option_or (deployed_contract d id) (deployed_contract (e ∷ []) id)
at_end [] e id = refl
at_end (c ∷ d) e id = by_first (same_id c.id id) (at_end d e id)
  where
    by_first : (q : Bool) → deployed_contract (d ++ e ∷ []) id ≡ option_or (deployed_contract d id) (deployed_contract (e ∷ []) id)
        → (if q then Some c else deployed_contract (d ++ e ∷ []) id) ≡ option_or (if q then Some c else deployed_contract d id) (deployed_contract (e ∷ []) id)
    by_first true h = refl
    by_first false h = h

-- one more, at the end there and in its place here
alike_with : (d : List ContractEntry) (before after : List Loaded) (c : Loaded) → has (ids_of (before ++ after)) c.id ≡ false → AreAlike d (entries_of (before ++ after))
    → AreAlike (d ++ entry_of c ∷ []) (entries_of (before ++ c ∷ after))
alike_with d before after c lacks alike id = at_end d (entry_of c) id ∙ (by_test (same_id c.id id) refl ∙ sym (entry_found (before ++ c ∷ after) id))
  where
    by_test : (q : Bool) → same_id c.id id ≡ q → option_or (deployed_contract d id) (deployed_contract (entry_of c ∷ []) id) ≡ option_map entry_of (found (before ++ c ∷ after) id)
    by_test true same =
        let e : c.id ≡ id = (ids_tell c.id id).0 same in
        let absent : deployed_contract d c.id ≡ None = none_is (deployed_contract d c.id) (taken_is d (before ++ after) alike c.id ∙ lacks) in
        ap (λ (o : Option ContractEntry). option_or o (deployed_contract (entry_of c ∷ []) id)) (ap (deployed_contract d) (sym e) ∙ absent)
        ∙ (ap (λ (q : Bool). if q then Some (entry_of c) else None) same
        ∙ ap (option_map entry_of) (sym (ap (found (before ++ c ∷ after)) (sym e) ∙ found_new before after c lacks)))
    by_test false other =
        ap (λ (q : Bool). option_or (deployed_contract d id) (if q then Some (entry_of c) else None)) other
        ∙ (or_none (deployed_contract d id)
        ∙ (alike id ∙ (entry_found (before ++ after) id ∙ ap (option_map entry_of) (sym (found_other before after c id other)))))

loads_with : (sources : List Source) (slots : List (Option Program)) (d : List ContractEntry) (at : ℕ) (c : Loaded) → IsLoaded sources slots d → Around sources slots at c
    → is_deployed d c.id ≡ false → Stands d c → IsLoaded sources (set slots at (Some c.program)) (d ++ entry_of c ∷ [])
loads_with sources slots d at c x a free s =
    let alike : AreAlike d (entries_of (a.before ++ a.after)) = subst (λ (cs : List Loaded). AreAlike d (entries_of cs)) a.was x.alike in
    let lacks : has (ids_of (a.before ++ a.after)) c.id ≡ false = sym (taken_is d (a.before ++ a.after) alike c.id) ∙ free in
    record {
      many = length-set slots at (Some c.program) ∙ x.many;
      loads =
          subst (λ (cs : List Loaded). Loads cs) (sym a.is)
          (one a.before a.after c (subst (λ (cs : List Loaded). Loads cs) a.was x.loads) lacks (stands_alike d (entries_of (a.before ++ a.after)) alike c s));
      alike = subst (λ (cs : List Loaded). AreAlike (d ++ entry_of c ∷ []) (entries_of cs)) (sym a.is) (alike_with d a.before a.after c lacks alike);
    }

-- ---- one slot more

fewer : (slots : List (Option Program)) (at : ℕ) (p : Program) → slice_get slots at ≡ Some None → gaps (set slots at (Some p)) < gaps slots
fewer [] at p h = absurd (none-some None h)
fewer (None ∷ slots) zero p h = omega arith
fewer (Some q ∷ slots) zero p h = absurd (none-some q (sym (same_Some (Some q) None h)))
fewer (None ∷ slots) (suc at) p h = let less = fewer slots at p h in omega arith
fewer (Some q ∷ slots) (suc at) p h = fewer slots at p h

gap_is : (o : Option (Option Program)) → is_gap o ≡ true → o ≡ Some None
gap_is None h = absurd (false≢true h)
gap_is (Some None) h = refl
gap_is (Some (Some p)) h = absurd (false≢true h)

pub gap_within : (slots : List (Option Program)) (at : ℕ) → is_gap (slice_get slots at) ≡ true → at < length slots
gap_within slots at h = slice_get_within slots at None (gap_is (slice_get slots at) h)

pub loaded_there : (sources : List Source) (slots slots' : List (Option Program)) (d d' : List ContractEntry) (at : ℕ) (s : Source) (p : Program) → IsLoaded sources slots d
    → slice_get sources at ≡ Some s → is_gap (slice_get slots at) ≡ true → is_deployed d s.id ≡ false → Standing d s (Some p)
    → slots' ≡ set slots at (Some p) → d' ≡ d ++ entry_of (loaded_as s p) ∷ [] → ComesOn sources slots slots' d'
loaded_there sources slots slots' d d' at s p x h k free stands e f =
    let gap = gap_is (slice_get slots at) k in
    let now = loads_with sources slots d at (loaded_as s p) x (around sources slots at s p h gap) free stands in (
      subst (λ (o : List (Option Program)). IsLoaded sources o d') (sym e) (subst (λ (all : List ContractEntry). IsLoaded sources (set slots at (Some p)) all) (sym f) now),
      subst (λ (o : List (Option Program)). gaps o < gaps slots) (sym e) (fewer slots at p gap),
    )

-- ---- a source that rests

pub rests_full : (d : List ContractEntry) (sources : List Source) (slots : List (Option Program)) (at : ℕ) → is_gap (slice_get slots at) ≡ false → RestsAt d sources slots at
rests_full d sources slots at f s h k free = absurd (false≢true (sym f ∙ ap is_gap k))

pub rests_taken : (d : List ContractEntry) (sources : List Source) (slots : List (Option Program)) (at : ℕ) (s : Source) → slice_get sources at ≡ Some s → is_deployed d s.id ≡ true
    → RestsAt d sources slots at
rests_taken d sources slots at s is taken t h k free =
    absurd (false≢true (sym free ∙ (ap (λ (x : Source). is_deployed d x.id) (same_Some t s (sym h ∙ is)) ∙ taken)))

pub rests_refused : (d : List ContractEntry) (sources : List Source) (slots : List (Option Program)) (at : ℕ) (s : Source) → slice_get sources at ≡ Some s → Standing d s None
    → RestsAt d sources slots at
rests_refused d sources slots at s is stands t h k free = subst (λ (x : Source). Standing d x None) (same_Some s t (sym is ∙ h)) stands

-- ---- a pass

-- so far
abbrev pub PassedTo : List Source → List (Option Program) → List ContractEntry → ℕ → List (Option Program) → List ContractEntry → Bool → Type 0
PassedTo sources slots d n slots' d' true = ComesOn sources slots slots' d'
PassedTo sources slots d n slots' d' false = (slots' ≡ slots) × (d' ≡ d) × ((k : ℕ) → k < n → RestsAt d sources slots k)

pub none_passed : (sources : List Source) (slots : List (Option Program)) (d : List ContractEntry) → PassedTo sources slots d 0 slots d false
none_passed sources slots d = (refl, refl, λ k less. absurd (omega arith))

moved : (sources : List Source) (a b : List (Option Program)) (d e : List ContractEntry) → b ≡ a → e ≡ d → IsLoaded sources a d → IsLoaded sources b e
moved sources a b d e p q x = subst (λ (o : List (Option Program)). IsLoaded sources o e) (sym p) (subst (λ (all : List ContractEntry). IsLoaded sources a all) (sym q) x)

pub loaded_now : (sources : List Source) (slots slots' : List (Option Program)) (d d' : List ContractEntry) (n : ℕ) (any : Bool) → IsLoaded sources slots d
    → PassedTo sources slots d n slots' d' any → IsLoaded sources slots' d'
loaded_now sources slots slots' d d' n true x h = h.0
loaded_now sources slots slots' d d' n false x h = moved sources slots slots' d d' h.0 h.1 x

no_more : (sources : List Source) (slots slots' : List (Option Program)) (d d' : List ContractEntry) (n : ℕ) (any : Bool) → PassedTo sources slots d n slots' d' any → gaps slots' ≤ gaps slots
no_more sources slots slots' d d' n true h = let less = h.1 in omega arith
no_more sources slots slots' d d' n false h = let same = ap gaps h.0 in omega arith

turn_loaded : (sources : List Source) (slots slots' slots'' : List (Option Program)) (d d' d'' : List ContractEntry) (n : ℕ) (any : Bool) → PassedTo sources slots d n slots' d' any
    → Tried sources n slots' d' slots'' d'' true → PassedTo sources slots d (n + 1) slots'' d'' true
turn_loaded sources slots slots' slots'' d d' d'' n any h t =
    let kept = no_more sources slots slots' d d' n any h in
    let less = t.1 in
    (t.0, omega arith)

-- at what was there before this one, and at this one
rests_more : (sources : List Source) (slots : List (Option Program)) (d : List ContractEntry) (n : ℕ) → ((k : ℕ) → k < n → RestsAt d sources slots k) → RestsAt d sources slots n
    → (k : ℕ) → k < n + 1 → RestsAt d sources slots k
rests_more sources slots d n below here = below_more (λ k. RestsAt d sources slots k) n below here

turn_rests : (sources : List Source) (slots slots' slots'' : List (Option Program)) (d d' d'' : List ContractEntry) (n : ℕ) (any : Bool) → PassedTo sources slots d n slots' d' any
    → Tried sources n slots' d' slots'' d'' false → PassedTo sources slots d (n + 1) slots'' d'' any
turn_rests sources slots slots' slots'' d d' d'' n true h t =
    (moved sources slots' slots'' d' d'' t.0 t.1 h.0, subst (λ (o : List (Option Program)). gaps o < gaps slots) (sym t.0) h.1)
turn_rests sources slots slots' slots'' d d' d'' n false h t = (
  t.0 ∙ h.0,
  t.1 ∙ h.1,
  rests_more sources slots d n h.2
      (subst (λ (o : List (Option Program)). RestsAt d sources o n) h.0 (subst (λ (all : List ContractEntry). RestsAt all sources slots' n) h.1 t.2)),
)

pub turn : (sources : List Source) (slots slots' slots'' : List (Option Program)) (d d' d'' : List ContractEntry) (n : ℕ) (any is : Bool) → PassedTo sources slots d n slots' d' any
    → Tried sources n slots' d' slots'' d'' is → PassedTo sources slots d (n + 1) slots'' d'' (any || is)
turn sources slots slots' slots'' d d' d'' n true true h t = turn_loaded sources slots slots' slots'' d d' d'' n true h t
turn sources slots slots' slots'' d d' d'' n false true h t = turn_loaded sources slots slots' slots'' d d' d'' n false h t
turn sources slots slots' slots'' d d' d'' n true false h t = turn_rests sources slots slots' slots'' d d' d'' n true h t
turn sources slots slots' slots'' d d' d'' n false false h t = turn_rests sources slots slots' slots'' d d' d'' n false h t

pub all_passed : (sources : List Source) (slots slots' : List (Option Program)) (d d' : List ContractEntry) (n : ℕ) (any : Bool) → length sources ≤ n
    → PassedTo sources slots d n slots' d' any → Passed sources slots d slots' d' any
all_passed sources slots slots' d d' n true many h = h
all_passed sources slots slots' d d' n false many h = (h.0, h.1, λ k s is. let less = slice_get_within sources k s is in h.2 k (omega arith) s is)

pub comes_on : (sources : List Source) (slots slots' : List (Option Program)) (d d' : List ContractEntry) (any : Bool) → Passed sources slots d slots' d' any → any ≡ true
    → ComesOn sources slots slots' d'
comes_on sources slots slots' d d' true h e = h
comes_on sources slots slots' d d' false h e = absurd (false≢true e)

pub at_rest : (sources : List Source) (slots slots' : List (Option Program)) (d d' : List ContractEntry) (any : Bool) → IsLoaded sources slots d → Passed sources slots d slots' d' any → any ≡ false
    → IsLoaded sources slots' d' × AreAtRest d' sources slots'
at_rest sources slots slots' d d' true x h e = absurd (false≢true (sym e))
at_rest sources slots slots' d d' false x h e = (
  moved sources slots slots' d d' h.0 h.1 x,
  subst (λ (o : List (Option Program)). AreAtRest d' sources o) (sym h.0) (subst (λ (all : List ContractEntry). AreAtRest all sources slots) (sym h.1) h.2),
)
