-- Fields one after the other.
use Rattle.std.specs.Prelude.{Option, Some, None, option_to_list, List, [], ◌∷◌, ◌++◌}
use Rattle.std.specs.List.{cons_option}
use Rattle.std.proofs.Common.{◌≡◌, ap, append_assoc, append-nil}

-- what may be one more stands behind what was there
pub one_more : {X : Type 0} (done : List X) (o : Option X) (more : List X) → (done ++ option_to_list o) ++ more ≡ done ++ cons_option o more
one_more done None more = ap (λ front. front ++ more) (append-nil done)
one_more done (Some x) more = append_assoc done (x ∷ []) more
