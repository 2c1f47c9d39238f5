-- What is less, by what `cmp` answers; values with parts or optionals are less than nothing.
use Rattle.std.proofs.Common.{◌≡◌, ℕ, ℤ, List, refl, ap, ◌∙◌, arith, Ordering, int_cmp, int_lt, nat_cmp, is_lt}
use Rattle.std.proofs.lemmas.Bool.Decides.{nat_tests}
use Rattle.std.proofs.lemmas.Int.{ints}
use Rattle.std.proofs.lemmas.Cmp.{same_from_slice_cmp}
use Rattle.std.specs.Cmp.Lexicographic.{slice_cmp}
use Rattle.cad_evaluation.specs.Operators.{is_before}

pub is_less : (x y : ℤ) (o : Ordering) → o ≡ int_cmp x y → is_lt o ≡ int_lt x y
is_less x y o e = ap is_lt e ∙ told x y
  where
    told : (x y : ℤ) → is_lt (int_cmp x y) ≡ int_lt x y
    told x y = grind (arith, ints)

pub is_before_by_order : (xs ys : List ℕ) (o : Ordering) → o ≡ slice_cmp nat_cmp xs ys → is_lt o ≡ is_before xs ys
is_before_by_order xs ys o e = same_from_slice_cmp nat_cmp is_lt is_before refl (λ _ _. refl) (λ _ _. refl) (λ x y xs ys o e. grind (arith, nat_tests)) xs ys o e
