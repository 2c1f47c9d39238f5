-- Tables whose members stand at their places.
use Rattle.std.proofs.Common.{◌≡◌, ℕ, zero, suc, ◌+◌, List, [], ◌∷◌, Option, Some, None, refl, sym, ap, ◌∙◌, arith}
use Rattle.std.specs.Prelude.{slice_get}

-- each member's number is its place, from n on
abbrev pub Numbered : {A : Type 0} → (A → ℕ) → ℕ → List A → Type 0
Numbered number n [] = Unit {0}
Numbered number n (a ∷ all) = (number a ≡ n) × Numbered number (suc n) all

abbrev some : {A : Type 0} → A → Option A
some a = Some a

same_some : {A : Type 0} (a b : A) → some a ≡ some b → a ≡ b
same_some a b e = cc

pub at_place : {A : Type 0} (number : A → ℕ) (all : List A) (n i : ℕ) (a : A) → Numbered number n all → slice_get all i ≡ Some a → number a ≡ n + i
at_place number [] n i a h e = absurd cc
at_place number (x ∷ all) n zero a h e = ap number (sym (same_some x a e)) ∙ h.0 ∙ omega arith
at_place number (x ∷ all) n (suc i) a h e = at_place number all (suc n) i a h.1 e ∙ omega arith
