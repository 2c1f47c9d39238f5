-- What is stored, place by place.
use Rattle.std.proofs.Common.{◌≡◌, ◌↔◌, ◌<◌, ◌≤◌, ◌+◌, IsTrue, ℕ, suc, true, false, List, [], ◌∷◌, length, drop, get_or, refl, sym, ap, subst, add-one, arith}
use Rattle.std.proofs.lemmas.Bool.{false≢true}
use Rattle.cad_rows.proofs.CopyLaws.{from_there, past}
use Rattle.cad_rows.specs.Views.{PlaceView, vacant, taken, before, pure_row, pure_place}
use Rattle.cad_rows.specs.declared.tree.Place.{Place}
use Rattle.cad_syntax.specs.declared.text.Name.{Name}
use Rattle.cad_values.specs.Shapes.{Shapes}
use Rattle.cad_world.specs.Rows.{Row, stop}
use Rattle.cad_world.specs.Sound.{AreStored}
use Rattle.cad_worlds.proofs.Lists.{none_past, from_item}
use Rattle.cad_world_checks.proofs.Soundness.{one_kept}
use Rattle.cad_world_checks.specs.Checks.{IsKept}

-- what is stored from some place on
abbrev pub StoredFrom : Shapes → ℕ → List Name → List Place → Type 0
StoredFrom k i names places = AreStored k (drop i names) (pure_row (drop i places))

abbrev AreAll : Shapes → List Name → List Place → Type 0
AreAll k names places = AreStored k names (pure_row places)

one_place : (k : Shapes) (names : List Name) (places : List Place) (i : ℕ) (name : Name) (place : Place) → length names ≡ length places → i < length places → name ≡ get_or names i name → place ≡ get_or places i place
    → StoredFrom k i names places ↔ (IsKept k name (pure_place place) × StoredFrom k (i + 1) names places)
one_place k names places i name place same inside name_is place_is =
    rw (add-one i) (
    let there = from_item names i name (omega (arith, same, inside)) name_is in
    let row = from_there places i place inside place_is in
    subst (λ (r : Row). AreStored k (drop i names) r ↔ (IsKept k name (pure_place place) × StoredFrom k (suc i) names places)) (sym row)
    (subst (λ (ns : List Name). AreStored k ns (before (pure_place place) (pure_row (drop (suc i) places))) ↔ (IsKept k name (pure_place place) × StoredFrom k (suc i) names places)) (sym there)
    (one_kept k name (drop (suc i) names) (pure_place place) (pure_row (drop (suc i) places))))
    )

pub stored_turn : (k : Shapes) (names : List Name) (places : List Place) (i : ℕ) (name : Name) (place : Place) → length names ≡ length places → i < length places → name ≡ get_or names i name → place ≡ get_or places i place
    → IsKept k name (pure_place place) → (StoredFrom k i names places ↔ AreAll k names places) → StoredFrom k (i + 1) names places ↔ AreAll k names places
stored_turn k names places i name place same inside name_is place_is kept so =
    let one = one_place k names places i name place same inside name_is place_is in
    ((λ rest. so.0 (one.1 (kept, rest))), (λ all. (one.0 (so.1 all)).1))

pub stored_break : (k : Shapes) (names : List Name) (places : List Place) (i : ℕ) (name : Name) (place : Place) → length names ≡ length places → i < length places → name ≡ get_or names i name → place ≡ get_or places i place
    → (IsKept k name (pure_place place) → ⊥) → (StoredFrom k i names places ↔ AreAll k names places) → IsTrue false ↔ AreAll k names places
stored_break k names places i name place same inside name_is place_is refuses so =
    let one = one_place k names places i name place same inside name_is place_is in
    ((λ h. absurd (false≢true h)), (λ all. absurd (refuses (one.0 (so.1 all)).0)))

pub stored_end : (k : Shapes) (names : List Name) (places : List Place) (i : ℕ) → length names ≡ length places → length places ≤ i → (StoredFrom k i names places ↔ AreAll k names places) → IsTrue true ↔ AreAll k names places
stored_end k names places i same outside so =
    let none : drop i names ≡ [] = none_past names i (omega (arith, same, outside)) in
    let row : pure_row (drop i places) ≡ stop = past places i outside in
    let all = subst (λ (r : Row). AreStored k (drop i names) r) (sym row) (subst (λ (ns : List Name). AreStored k ns stop) (sym none) tt) in
    ((λ h. so.0 all), (λ s. refl))

-- ---- as many places as names

no_names : (k : Shapes) (v : PlaceView) (rest : Row) → AreStored k [] (before v rest) → ⊥
no_names k vacant rest s = s
no_names k (taken l t) rest s = s

pub as_many : (k : Shapes) (names : List Name) (places : List Place) → AreAll k names places → length names ≡ length places
as_many k [] [] s = refl
as_many k [] (p ∷ places) s = absurd (no_names k (pure_place p) (pure_row places) s)
as_many k (name ∷ names) [] s = absurd s
as_many k (name ∷ names) (p ∷ places) s = ap suc (as_many k names places ((one_kept k name names (pure_place p) (pure_row places)).0 s).1)
