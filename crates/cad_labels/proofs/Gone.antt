-- What is gone stays gone.
use Rattle.std.proofs.Common.{◌≡◌, ℕ, suc, ◌≤◌, nat_lt, Bool, true, false, if◌then◌else◌, refl, sym, ◌∙◌, subst, arith}
use Rattle.cad_world.specs.Marks.{labels}
use Rattle.cad_labels.specs.Laws.{GoneStaysGone, FoundWasGiven, ReferencesEndOnce}
use Rattle.cad_labels.proofs.Marks.{Counts}
use Rattle.cad_labels.proofs.States.{labels_whole, at_whole, whole, whole_counts, nowhere_marked, unmarked_nowhere}

pub gone_stays_gone : GoneStaysGone
gone_stays_gone s v p h low gone = unmarked_nowhere p v (omega (arith, h.2 p low, nowhere_marked p s gone))

given : (p n m : ℕ) (b : Bool) → nat_lt p n ≡ b → 1 ≤ m → m ≤ (if b then 1 else 0) → suc p ≤ n
given p n m true e h k = grind (arith, e)
given p n m false e h k = absurd (omega (arith, h, k))

pub found_given : FoundWasGiven
found_given s p f once e = given p s.next_label (labels p s) (nat_lt p s.next_label) refl
    (omega (arith, labels_whole p s, subst (Counts (whole p s)) (sym (at_whole p s) ∙ e) (whole_counts p s))) (once p)

pub references_end : ReferencesEndOnce
references_end s v w p f once e h gone k = gone_stays_gone v w p k (omega (arith, h.1, found_given s p f once e)) gone
