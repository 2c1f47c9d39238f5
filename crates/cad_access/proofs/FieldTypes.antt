-- The types of fields one after the other, and two tests that tell one fact.
use Rattle.std.specs.Prelude.{Option, Some, None, option_to_list, List, [], ◌∷◌, ◌++◌}
use Rattle.std.specs.List.{cons_option}
use Rattle.std.proofs.Common.{◌≡◌, ◌↔◌, Bool, true, false, IsTrue, refl, sym, ap, append_assoc, append-nil}

-- what may be one more stands behind what was there
pub one_more : {X : Type 0} (done : List X) (o : Option X) (more : List X) → (done ++ option_to_list o) ++ more ≡ done ++ cons_option o more
one_more done None more = ap (λ front. front ++ more) (append-nil done)
one_more done (Some x) more = append_assoc done (x ∷ []) more

-- two tests of one fact are equal
pub both_tell : (P : Type 0) (x y : Bool) → (IsTrue x ↔ P) → ((y ≡ true) ↔ P) → x ≡ y
both_tell P true true left right = refl
both_tell P true false left right = sym (right.1 (left.0 refl))
both_tell P false true left right = left.1 (right.0 refl)
both_tell P false false left right = refl
