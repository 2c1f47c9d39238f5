-- Marks that hold before each turn of a loop.
use Rattle.std.proofs.Common.{◌≡◌, refl, sym, ◌∙◌, subst, ℕ, true, List, [], ◌∷◌}
use Rattle.std.proofs.lemmas.Bool.{false≢true, and_parts, and_from}
use Rattle.std.specs.Prelude.{Option, Some}
use Rattle.cad_paths.specs.declared.letter.Way.TheVariants.{Next}
use Rattle.cad_paths.specs.Marks.{Mark, MarkEntry, joined, meet, says_less, all_say_less, Leaves, marks}
use Rattle.cad_mark_laws.specs.Laws.{LoopsAreStable}
use Rattle.cad_mark_laws.proofs.States.{nil_cons, same_tail, joined_left, less_in, less_by}
use Rattle.cad_mark_laws.proofs.Entries.{variables, meet_keeps}
use Rattle.cad_mark_laws.proofs.Leaves.{Over, OverAll, Grows, last_turn, next_turn, turns_stand}
use Rattle.cad_mark_laws.proofs.Complete.{shape}

less_itself : (m : Mark) → says_less m m ≡ true
less_itself m = less_by m m (λ s h. h)

less_joined : (a b : Mark) → says_less a (joined a b) ≡ true
less_joined a b = less_by a (joined a b) (λ s h. joined_left a b s h)

less_on : (a b c : Mark) → says_less a b ≡ true → says_less b c ≡ true → says_less a c ≡ true
less_on a b c h i = less_by a c (λ s j. less_in b c s i (less_in a b s h j))

all_itself : (m : List MarkEntry) → all_say_less m m ≡ true
all_itself [] = refl
all_itself (x ∷ xs) = and_from (says_less x.mark x.mark) (all_say_less xs xs) (less_itself x.mark) (all_itself xs)

all_met : (m n : List MarkEntry) → variables n ≡ variables m → all_say_less m (meet m n) ≡ true
all_met [] n e = refl
all_met (x ∷ xs) [] e = absurd (nil_cons x.variable (variables xs) e)
all_met (x ∷ xs) (y ∷ ys) e =
    let p = same_tail y.variable x.variable (variables ys) (variables xs) e in
    and_from (says_less x.mark (joined x.mark y.mark)) (all_say_less xs (meet xs ys)) (less_joined x.mark y.mark) (all_met xs ys p)

all_on : (a b c : List MarkEntry) → all_say_less a b ≡ true → all_say_less b c ≡ true → all_say_less a c ≡ true
all_on [] b c h i = refl
all_on (x ∷ xs) [] c h i = absurd (false≢true h)
all_on (x ∷ xs) (y ∷ ys) [] h i = absurd (false≢true i)
all_on (x ∷ xs) (y ∷ ys) (z ∷ zs) h i =
    let p = and_parts (says_less x.mark y.mark) (all_say_less xs ys) h in let q = and_parts (says_less y.mark z.mark) (all_say_less ys zs) i in
    and_from (says_less x.mark z.mark) (all_say_less xs zs) (less_on x.mark y.mark z.mark p.0 q.0) (all_on xs ys zs p.1 q.1)

grows_more : (us : List ℕ) (f : List MarkEntry → Option Leaves) → ((m : List MarkEntry) (a : Leaves) → variables m ≡ us → f m ≡ Some a → OverAll us a)
    → {m k : List MarkEntry} → Grows f m k → variables m ≡ us → all_say_less m k ≡ true
grows_more us f g (last_turn {m = m}) e = all_itself m
grows_more us f g (next_turn {m = m} {k = k} a n d i h) e =
    let p : variables n ≡ us = subst (λ z. Over us z) i (g m a e d Next) in
    all_on m (meet m n) k (all_met m n (p ∙ sym e)) (grows_more us f g h (meet_keeps m n (p ∙ sym e) ∙ e))

pub loops_stable : LoopsAreStable
loops_stable fields a m l e =
    let k = turns_stand 4 (marks fields a) m l e in
    (k.0, k.1, grows_more (variables m) (marks fields a) (λ n x h i. subst (λ z. OverAll z x) h (shape fields a n x i)) k.2 refl, k.3, k.4, k.5)
