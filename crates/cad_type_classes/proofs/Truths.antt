-- Two tests that tell one fact.
use Rattle.std.proofs.Common.{◌≡◌, ◌↔◌, Bool, true, false, IsTrue, refl, sym}

-- two tests of one fact are equal
pub both_tell : (P : Type 0) (x y : Bool) → (IsTrue x ↔ P) → ((y ≡ true) ↔ P) → x ≡ y
both_tell P true true left right = refl
both_tell P true false left right = sym (right.1 (left.0 refl))
both_tell P false true left right = left.1 (right.0 refl)
both_tell P false false left right = refl
