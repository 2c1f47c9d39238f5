-- The first place of a list at which a test passes, by a loop from the front.
use Rattle.std.specs.Prelude.{Bool, true, false, not, cond, Option, Some, None, position}
use Rattle.std.specs.List.{position_or_len}
use Rattle.std.proofs.Common.{◌≡◌, ℕ, suc, ◌+◌, ◌<◌, List, [], ◌∷◌, length, get_or, drop, refl, ap, arith, add-one, drop-cons}
use Rattle.std.proofs.lemmas.List.Sums.{prefix_len-drop_no, prefix_len-drop_all}
use Rattle.std.proofs.lemmas.Grind.{common_steps}

-- the first place at which the test passes, where none before i does
abbrev pub FromHere : {X : Type 0} → (X → Bool) → List X → ℕ → Type 0
FromHere p xs i = position_or_len p xs ≡ i + position_or_len p (drop i xs)

at : {X : Type 0} (p : X → Bool) (xs : List X) (i : ℕ) → i < length xs → position_or_len p xs ≡ i → Some i ≡ position p xs
at p xs i inside is_i = rw is_i (grind (arith, common_steps))

pub is_here : {X : Type 0} (p : X → Bool) (xs : List X) (i : ℕ) (d : X) → i < length xs → FromHere p xs i → p (get_or xs i d) ≡ true → Some i ≡ position p xs
is_here p xs i d inside so_far here =
    let none_more : position_or_len p (drop i xs) ≡ 0 = prefix_len-drop_no (λ x. not (p x)) xs i d inside (ap not here) in
    at p xs i inside (omega arith)

further : {X : Type 0} (p : X → Bool) (x : X) (xs : List X) → p x ≡ false → position_or_len p (x ∷ xs) ≡ 1 + position_or_len p xs
further p x xs fails = rw fails refl

pub is_later : {X : Type 0} (p : X → Bool) (xs : List X) (i : ℕ) (d : X) → i < length xs → FromHere p xs i → p (get_or xs i d) ≡ false → FromHere p xs (i + 1)
is_later p xs i d inside so_far fails =
    let next : position_or_len p (drop i xs) ≡ 1 + position_or_len p (drop (i + 1) xs) = rw (add-one, drop-cons xs i d) (further p (get_or xs i d) (drop (suc i) xs) fails) in
    omega arith

pub is_nowhere : {X : Type 0} (p : X → Bool) (xs : List X) → FromHere p xs (length xs) → None ≡ position p xs
is_nowhere p xs so_far =
    let none_more : position_or_len p (drop (length xs) xs) ≡ 0 = prefix_len-drop_all (λ x. not (p x)) xs (length xs) (omega arith) in
    let all : position_or_len p xs ≡ length xs = omega arith in
    rw all (grind (arith, common_steps))
