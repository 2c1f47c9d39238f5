-- A fact of what each item of a list stands for, tested one after the other.
use Rattle.std.proofs.Common.{◌≡◌, ◌↔◌, ◌<◌, ◌≤◌, ◌+◌, IsTrue, ℕ, true, false, List, map, length, drop, get_or}
use Rattle.std.specs.List.{AllByRecursion}
use Rattle.cad_fits.proofs.Each.{goes_on, fails, holds_of_all}
use Rattle.cad_codec.specs.Forms.{HasBytes}
use Rattle.cad_rows.specs.Views.{pure_row, pure_place}
use Rattle.cad_rows.specs.declared.tree.Place.{Place}
use Rattle.cad_world.specs.Registers.{row_values}
use Rattle.cad_world_checks.proofs.ReadBack.{place_opens}
use Rattle.cad_world_checks.specs.Checks.{PlaceHasBytes}

abbrev pub AllOf : {X A : Type 0} → (A → Type 0) → (X → A) → List X → Type 0
AllOf P f xs = AllByRecursion P (map f xs)

pub one_fails : {X A : Type 0} (P : A → Type 0) (f : X → A) (xs : List X) (i : ℕ) (x : X) → i < length xs → x ≡ get_or xs i x → (P (f x) → ⊥) → (AllOf P f (drop i xs) ↔ AllOf P f xs) → IsTrue false ↔ AllOf P f xs
one_fails P f xs i x lt is refuses so = fails (λ y. P (f y)) (AllOf P f) (λ y ys. ((λ h. h), (λ h. h))) xs i x lt is refuses so

pub one_more : {X A : Type 0} (P : A → Type 0) (f : X → A) (xs : List X) (i : ℕ) (x : X) → i < length xs → x ≡ get_or xs i x → P (f x) → (AllOf P f (drop i xs) ↔ AllOf P f xs) → AllOf P f (drop (i + 1) xs) ↔ AllOf P f xs
one_more P f xs i x lt is holds so = goes_on (λ y. P (f y)) (AllOf P f) (λ y ys. ((λ h. h), (λ h. h))) xs i x lt is holds so

pub all_hold : {X A : Type 0} (P : A → Type 0) (f : X → A) (xs : List X) (i : ℕ) → length xs ≤ i → (AllOf P f (drop i xs) ↔ AllOf P f xs) → IsTrue true ↔ AllOf P f xs
all_hold P f xs i end so = holds_of_all (AllOf P f) tt xs i end so

-- ---- the values in places

abbrev pub PlacesHaveBytes : List Place → Type 0
PlacesHaveBytes ps = AllByRecursion HasBytes (row_values (pure_row ps))

abbrev HasOne : Place → Type 0
HasOne p = PlaceHasBytes (pure_place p)

pub place_fails : (ps : List Place) (i : ℕ) (p : Place) → i < length ps → p ≡ get_or ps i p → (PlaceHasBytes (pure_place p) → ⊥) → (PlacesHaveBytes (drop i ps) ↔ PlacesHaveBytes ps) → IsTrue false ↔ PlacesHaveBytes ps
place_fails ps i p lt is refuses so = fails HasOne PlacesHaveBytes (λ q qs. place_opens (pure_place q) (pure_row qs)) ps i p lt is refuses so

pub place_more : (ps : List Place) (i : ℕ) (p : Place) → i < length ps → p ≡ get_or ps i p → PlaceHasBytes (pure_place p) → (PlacesHaveBytes (drop i ps) ↔ PlacesHaveBytes ps) → PlacesHaveBytes (drop (i + 1) ps) ↔ PlacesHaveBytes ps
place_more ps i p lt is holds so = goes_on HasOne PlacesHaveBytes (λ q qs. place_opens (pure_place q) (pure_row qs)) ps i p lt is holds so

pub places_hold : (ps : List Place) (i : ℕ) → length ps ≤ i → (PlacesHaveBytes (drop i ps) ↔ PlacesHaveBytes ps) → IsTrue true ↔ PlacesHaveBytes ps
places_hold ps i end so = holds_of_all PlacesHaveBytes tt ps i end so
