-- What is left of a list that is gone over.
use Rattle.std.proofs.Common.{◌≡◌, ℕ, zero, suc, ◌+◌, ◌<◌, ◌≤◌, List, [], ◌∷◌, length, drop, get_or, refl, sym, ap, ◌∙◌, drop-cons, length-drop, arith}

pub none_past : {A : Type 0} (xs : List A) (i : ℕ) → length xs ≤ i → drop i xs ≡ []
none_past [] zero outside = refl
none_past [] (suc i) outside = refl
none_past (x ∷ xs) zero outside = absurd (omega (arith, outside))
none_past (x ∷ xs) (suc i) outside = none_past xs i (omega (arith, outside))

pub from_item : {A : Type 0} (xs : List A) (i : ℕ) (x : A) → i < length xs → x ≡ get_or xs i x → drop i xs ≡ x ∷ drop (suc i) xs
from_item xs i x inside is = drop-cons xs i x inside ∙ ap (λ y. y ∷ drop (suc i) xs) (sym is)

-- as many more as are left
pub ahead_of : {A : Type 0} (xs left : List A) (i n : ℕ) → left ≡ drop i xs → i ≤ length xs → n ≤ length left → i + n ≤ length xs
ahead_of xs left i n is inside few = let long = ap length is ∙ length-drop i xs in omega (arith, inside, few, long)
