-- Where identifiers stand in a list.
use Rattle.std.proofs.Common.{◌≡◌, ℕ, suc, ◌+◌, ◌-◌, ◌<◌, ◌≤◌, Bool, true, false, Option, Some, None, option_map, option_copied, find, Bor, IfSome, MatchOption, List, [], ◌∷◌, length, map, drop, get_or, slice_get, refl, ap, sym, ◌∙◌, subst, cond, arith}
use Rattle.std.specs.List.{HoldsAt}
use Rattle.std.proofs.Math.Seq.{drop-cons}
use Rattle.std.proofs.lemmas.Option.{slice_get_past, slice_get_read}
use Rattle.cad_syntax.specs.TypeIds.{same_id}
use Rattle.cad_syntax.specs.declared.type_id.TypeId.{TypeId}
use Rattle.cad_types.specs.Declarations.{declaration_of, found}
use Rattle.cad_types.specs.Places.{place_in}
use Rattle.cad_types.specs.Code.Declarations.{place_of}
use Rattle.cad_types.specs.declared.declared.Declared.{Declared}

-- what is found by these places, of a list whose first stands so many places on
abbrev pub ArePlacedFrom : (TypeId → Option ℕ) → ℕ → List TypeId → Type 0
ArePlacedFrom found_at left ids = (id : TypeId) → found_at id ≡ option_map (λ place. left + place) (place_in ids id)

nothing_on : (o : Option ℕ) → o ≡ option_map (λ place. 0 + place) o
nothing_on None = refl
nothing_on (Some place) = ap Some (omega arith)

pub from_first : (found_at : TypeId → Option ℕ) (ids : List TypeId) → ArePlacedFrom found_at 0 ids → (id : TypeId) → found_at id ≡ place_in ids id
from_first found_at ids placed id = placed id ∙ sym (nothing_on (place_in ids id))

-- one identifier more in front
pub placed_more : (old new : TypeId → Option ℕ) (other : TypeId) (left : ℕ) (ids : List TypeId) → ((id : TypeId) → new id ≡ cond (same_id other id) (Some left) (old id)) → ArePlacedFrom old (suc left) ids → ArePlacedFrom new left (other ∷ ids)
placed_more old new other left ids adds before id = adds id ∙ go (same_id other id) (place_in ids id) (before id)
  where
    go : (b : Bool) (o : Option ℕ) → old id ≡ option_map (λ place. suc left + place) o → cond b (Some left) (old id) ≡ option_map (λ place. left + place) (cond b (Some 0) (option_map suc o))
    go true o e = ap Some (omega arith)
    go false None e = e
    go false (Some place) e = e ∙ ap Some (omega arith)

-- what stands at the first place of an identifier is the first that has it
pub first_there : {X : Type 0} (f : X → TypeId) (xs : List X) (id : TypeId) (place : ℕ) → place_in (map f xs) id ≡ Some place → find (λ x. same_id (f x) id) xs ≡ slice_get xs place
first_there f [] id place e = cc
first_there {X} f (x ∷ xs) id place e = go (same_id (f x) id) (place_in (map f xs) id) (first_there f xs id) e
  where
    go : (b : Bool) (o : Option ℕ) → ((p : ℕ) → o ≡ Some p → find (λ y. same_id (f y) id) xs ≡ slice_get xs p) → cond b (Some 0) (option_map suc o) ≡ Some place → cond b (Some x) (find (λ y. same_id (f y) id) xs) ≡ slice_get (x ∷ xs) place
    go true o rest e = let z : 0 ≡ place = cc in subst (λ (p : ℕ). Some x ≡ slice_get (x ∷ xs) p) z refl
    go false None rest e = cc
    go false (Some p) rest e = let z : suc p ≡ place = cc in subst (λ (q : ℕ). find (λ y. same_id (f y) id) xs ≡ slice_get (x ∷ xs) q) z (rest p refl)

pub first_nowhere : {X : Type 0} (f : X → TypeId) (xs : List X) (id : TypeId) → place_in (map f xs) id ≡ None → find (λ x. same_id (f x) id) xs ≡ None
first_nowhere f [] id e = refl
first_nowhere {X} f (x ∷ xs) id e = go (same_id (f x) id) (place_in (map f xs) id) (first_nowhere f xs id) e
  where
    go : (b : Bool) (o : Option ℕ) → (o ≡ None → find (λ y. same_id (f y) id) xs ≡ None) → cond b (Some 0) (option_map suc o) ≡ None → cond b (Some x) (find (λ y. same_id (f y) id) xs) ≡ None
    go true o rest e = cc
    go false None rest e = rest refl
    go false (Some p) rest e = cc

pub found_first : (ds : List Declared) (id : TypeId) → found (map declaration_of ds) id ≡ option_map declaration_of (find (λ d. same_id d.id id) ds)
found_first [] id = refl
found_first (d ∷ ds) id = go (same_id d.id id) (found_first ds id)
  where
    go : (b : Bool) → found (map declaration_of ds) id ≡ option_map declaration_of (find (λ x. same_id x.id id) ds)
        → cond b (Some (declaration_of d)) (found (map declaration_of ds) id) ≡ option_map declaration_of (cond b (Some d) (find (λ x. same_id x.id id) ds))
    go true rest = refl
    go false rest = rest

-- a list's places are those of its declarations
pub one_place : (ds : List Declared) (id : TypeId) → place_in (map (λ d. d.id) ds) id ≡ place_of (map declaration_of ds) id
one_place [] id = refl
one_place (d ∷ ds) id = ap (λ (o : Option ℕ). cond (same_id d.id id) (Some 0) (option_map suc o)) (one_place ds id)

-- one more from the end
pub drop_before : {X : Type 0} (f : X → TypeId) (xs : List X) (left : ℕ) (x : X) → 0 < left → left ≤ length xs → x ≡ get_or xs (left - 1) x → map f (drop (left - 1) xs) ≡ f x ∷ map f (drop left xs)
drop_before {X} f xs left x some within is =
    let next : suc (left - 1) ≡ left = omega (arith, some) in
    let cut : drop (left - 1) xs ≡ get_or xs (left - 1) x ∷ drop (suc (left - 1)) xs = drop-cons xs (left - 1) x (omega (arith, some, within)) in
    ap (map f) cut
    ∙ ap (λ (y : X). f y ∷ map f (drop (suc (left - 1)) xs)) (sym is)
    ∙ ap (λ (i : ℕ). f x ∷ map f (drop i xs)) next

-- what `get` gives is what stands at the place
pub got : {X : Type 0} (r : Option (Bor X)) (xs : List X) (i : ℕ) → IfSome r (λ x. x.now ≡ get_or xs i x.now) → MatchOption r (length xs ≤ i) (λ x. i < length xs × HoldsAt (λ y. x.now ≡ y) xs i) → option_copied r ≡ slice_get xs i
got None xs i is within = sym (slice_get_past xs i within)
got (Some x) xs i is within = sym (slice_get_read xs (length xs) i x.now refl within.0 is)

-- what is found, behind a reference
pub seen : {X Y : Type 0} (view : X → Y) (r : Option (Bor X)) (o : Option X) → option_copied r ≡ o → option_map (λ (x : Bor X). view x.now) r ≡ option_map view o
seen view None o e = ap (option_map view) e
seen view (Some x) o e = ap (option_map view) e
