-- Items come to their order: the last of a list first, each to its place among those that are in order.
use Rattle.std.proofs.Common.{◌≡◌, ℕ, suc, ◌+◌, ◌<◌, ◌≤◌, Bool, true, false, if◌then◌else◌, List, [], ◌∷◌, ◌++◌, length, get_or, map, drop, refl, sym, ap, ◌∙◌, arith}
use Rattle.std.proofs.Math.Seq.{drop-cons}
use Rattle.std.proofs.lemmas.List.{map-append}
use Rattle.std.proofs.lemmas.List.{length-map}
use Rattle.std.specs.List.{insert}
use Rattle.cad_transaction_ends.specs.Code.Sorting.{place_in}
use Rattle.cad_world.specs.Orders.{insert_in, sorted_in}

-- ---- the place of an item

placed_by : {X B : Type 0} (view : X → B) (before : B → B → Bool) (x y : X) (ys : List X) (b : Bool)
    → map view (insert ys (place_in before (view x) (map view ys)) x) ≡ insert_in before (view x) (map view ys)
    → map view (insert (y ∷ ys) (if b then 0 else suc (place_in before (view x) (map view ys))) x)
    ≡ (if b then view x ∷ view y ∷ map view ys else view y ∷ insert_in before (view x) (map view ys))
placed_by view before x y ys true h = refl
placed_by view before x y ys false h = ap (λ vs. view y ∷ vs) h

-- an item that comes to its place
pub placed : {X B : Type 0} (view : X → B) (before : B → B → Bool) (x : X) (ys : List X)
    → map view (insert ys (place_in before (view x) (map view ys)) x) ≡ insert_in before (view x) (map view ys)
placed view before x [] = refl
placed view before x (y ∷ ys) = placed_by view before x y ys (before (view x) (view y)) (placed view before x ys)

bound_by : (b : Bool) (m n : ℕ) → m ≤ n → (if b then 0 else suc m) ≤ suc n
bound_by true m n h = omega arith
bound_by false m n h = omega (arith, h)

-- that place is there
pub place_bound : {A : Type 0} (before : A → A → Bool) (x : A) (ys : List A) → place_in before x ys ≤ length ys
place_bound before x [] = omega arith
place_bound before x (y ∷ ys) = bound_by (before x y) (place_in before x ys) (length ys) (place_bound before x ys)

from_one : {X B : Type 0} (view : X → B) (i j : ℕ) (y : X) (ys : List X) → j ≡ i + 1 → i < length ys → y ≡ get_or ys i y → map view (drop i ys) ≡ view y ∷ map view (drop j ys)
from_one view i j y ys next within is =
    ap (map view) (drop-cons ys i y within) ∙ ap (λ z. view z ∷ map view (drop (suc i) ys)) (sym is)
    ∙ ap (λ k. view y ∷ map view (drop k ys)) (let e : suc i ≡ j = omega (arith, next) in e)

-- it is here
pub found : {X B : Type 0} (view : X → B) (before : B → B → Bool) (x : B) (y : X) (ys : List X) (i : ℕ) → i < length ys → y ≡ get_or ys i y → before x (view y) ≡ true
    → i + place_in before x (map view (drop i ys)) ≡ place_in before x (map view ys) → i ≡ place_in before x (map view ys)
found view before x y ys i within is comes so_far =
    let here : place_in before x (map view (drop i ys)) ≡ 0 =
    ap (place_in before x) (from_one view i (i + 1) y ys refl within is) ∙ ap (λ b. if b then 0 else suc (place_in before x (map view (drop (i + 1) ys)))) comes in
    omega (arith, here, so_far)

-- it is behind this one
pub passed : {X B : Type 0} (view : X → B) (before : B → B → Bool) (x : B) (y : X) (ys : List X) (i j : ℕ) → j ≡ i + 1 → i < length ys → y ≡ get_or ys i y → before x (view y) ≡ false
    → i + place_in before x (map view (drop i ys)) ≡ place_in before x (map view ys) → j + place_in before x (map view (drop j ys)) ≡ place_in before x (map view ys)
passed view before x y ys i j next within is stays so_far =
    let here : place_in before x (map view (drop i ys)) ≡ suc (place_in before x (map view (drop j ys))) =
    ap (place_in before x) (from_one view i j y ys next within is) ∙ ap (λ b. if b then 0 else suc (place_in before x (map view (drop j ys)))) stays in
    omega (arith, next, here, so_far)

-- it is at the end
pub not_found : {X B : Type 0} (view : X → B) (before : B → B → Bool) (x : B) (ys : List X) (i : ℕ) → length ys ≤ i
    → i + place_in before x (map view (drop i ys)) ≡ place_in before x (map view ys) → length ys ≡ place_in before x (map view ys)
not_found view before x ys i beyond so_far =
    let bound = place_bound before x (map view ys) in
    omega (arith, beyond, so_far, bound, length-map ys view)

-- ---- all of them

-- these come to their places among those that are in order, the last first
abbrev pub sorted_onto : {A : Type 0} → (A → A → Bool) → List A → List A → List A
sorted_onto before [] sorted = sorted
sorted_onto before (x ∷ xs) sorted = insert_in before x (sorted_onto before xs sorted)

pub onto_none : {A : Type 0} (before : A → A → Bool) (xs : List A) → sorted_onto before xs [] ≡ sorted_in before xs
onto_none before [] = refl
onto_none before (x ∷ xs) = ap (insert_in before x) (onto_none before xs)

onto_last : {A : Type 0} (before : A → A → Bool) (xs : List A) (x : A) (sorted : List A)
    → sorted_onto before (xs ++ x ∷ []) sorted ≡ sorted_onto before xs (insert_in before x sorted)
onto_last before [] x sorted = refl
onto_last before (y ∷ xs) x sorted = ap (insert_in before y) (onto_last before xs x sorted)

-- the last one comes to its place
pub onto_turn : {X B : Type 0} (view : X → B) (before : B → B → Bool) (was now : List X) (x : X) (sorted : List B) → was ≡ now ++ x ∷ []
    → sorted_onto before (map view was) sorted ≡ sorted_onto before (map view now) (insert_in before (view x) sorted)
onto_turn view before was now x sorted e =
    ap (λ xs. sorted_onto before (map view xs) sorted) e
    ∙ ap (λ vs. sorted_onto before vs sorted) (map-append view now (x ∷ []))
    ∙ onto_last before (map view now) (view x) sorted
