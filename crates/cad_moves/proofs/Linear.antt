-- The machine for moves goes wrong exactly where no linear word goes on.
use Rattle.std.proofs.Common.{◌≡◌, ◌≢◌, refl, sym, ◌∙◌, ap, subst, ◌⊎◌, inl, inr, ℕ, Bool, true, false, List, [], ◌∷◌, ◌++◌, map, if◌then◌else◌}
use Rattle.std.specs.Prelude.{Option, Some, None}
use Rattle.cad_paths.specs.declared.letter.Letter.{Letter}
use Rattle.cad_paths.specs.declared.letter.Letter.TheVariants.{Use, Fill, Spend, Empty, Need, Fresh, Set}
use Rattle.cad_paths.specs.declared.letter.Way.{Way}
use Rattle.cad_paths.specs.declared.letter.Way.TheVariants.{Next, Broken, Continued, Returned, Never}
use Rattle.cad_paths.specs.declared.letter.BodyPart.TheVariants.{Whole}
use Rattle.cad_paths.specs.declared.letter.Position.{Position}
use Rattle.cad_paths.specs.declared.letter.MoveKind.TheVariants.{UsedAfterMove, Lost}
use Rattle.cad_paths.specs.Paths.{PathVariable, PathBody, LetterAt, letter_at, Life}
use Rattle.cad_paths.specs.Linear.{LifeLetter, make, spells, close, life_letter, closes, closing, life_word, Uses, no_uses, and_use, and_fill, Looks, no_looks, and_look, LinearWord, spent, left_nil, spent_nil, filled_again, BeginsLinear, IsLinear, Linear, Offence, offence_of, Offends, offends, FirstOffence, MovesOf}
use Rattle.cad_moves.specs.declared.state.Rules.TheVariants.{Moves}
use Rattle.cad_moves.specs.declared.state.State.{State}
use Rattle.cad_moves.specs.declared.state.State.TheVariants.{Live, Vacant, Refilled, Gone}
use Rattle.cad_moves.specs.Code.Machine.{moved, is_absent, Outcome, fine, off, Runs, at_end, is_off, goes, is_held, Errs, goes_wrong, ends_held, Verdict}

-- ---- runs as a function

abbrev landed : Option State → Position → Outcome
landed None s = off s
landed (Some k) s = fine k

abbrev after : Outcome → LetterAt → Outcome
after (off t) m = off t
after (fine q) (letter_at l s) = landed (moved q l) s

abbrev run : Outcome → List LetterAt → Outcome
run o [] = o
run o (m ∷ w) = run (after o m) w

run_off : (t : Position) (w : List LetterAt) → run (off t) w ≡ off t
run_off t [] = refl
run_off t (m ∷ w) = run_off t w

absent_is : (o : Option State) → is_absent o ≡ true → o ≡ None
absent_is None e = refl
absent_is (Some q) e = cc

runs_run : {q : State} {w : List LetterAt} {o : Outcome} → Runs Moves q w o → run (fine q) w ≡ o
runs_run at_end = refl
runs_run (is_off {q = q} {l = l} {s = s} {w = w} e) = ap (λ z. run (landed z s) w) (absent_is (moved q l) e) ∙ run_off s w
runs_run (goes {q = q} {l = l} {s = s} {w = w} e h) = ap (λ z. run (landed z s) w) e ∙ runs_run h

step_runs : (q : State) (l : Letter) (s : Position) (w : List LetterAt) (o : Outcome) (k : Option State) → moved q l ≡ k → run (landed k s) w ≡ o
    → ((r : State) → run (fine r) w ≡ o → Runs Moves r w o) → Runs Moves q (letter_at l s ∷ w) o
step_runs q l s w o None d e f = subst (λ z. Runs Moves q (letter_at l s ∷ w) z) (sym (run_off s w) ∙ e) (is_off (ap is_absent d))
step_runs q l s w o (Some k) d e f = goes d (f k e)

run_runs : (q : State) (w : List LetterAt) (o : Outcome) → run (fine q) w ≡ o → Runs Moves q w o
run_runs q [] o e = subst (λ z. Runs Moves q [] z) e at_end
run_runs q (letter_at l s ∷ w) o e = step_runs q l s w o (moved q l) refl e (λ r d. run_runs r w o d)

-- ---- words by a machine

data S : Type 0 where
  start : S
  at : State → S
  done : S
  bad : S

abbrev of_out : Outcome → S
of_out (fine q) = at q
of_out (off t) = bad

abbrev step : S → LifeLetter → S
step start (make a) = at Live
step start (spells l a) = bad
step start (close a) = bad
step (at q) (make a) = bad
step (at q) (spells l a) = of_out (landed (moved q l) a)
step (at q) (close a) = if is_held q then bad else done
step done m = bad
step bad m = bad

abbrev go : S → List LifeLetter → S
go q [] = q
go q (m ∷ w) = go (step q m) w

go_append : (q : S) (u w : List LifeLetter) → go q (u ++ w) ≡ go (go q u) w
go_append q [] w = refl
go_append q (m ∷ u) w = go_append (step q m) u w

go_bad : (w : List LifeLetter) → go bad w ≡ bad
go_bad [] = refl
go_bad (m ∷ w) = go_bad w

-- linear words come to `done`
go_uses : {u : List LifeLetter} (q : State) → (q ≡ Live) ⊎ (q ≡ Refilled) → Uses u → go (at q) u ≡ at q
go_uses q h no_uses = refl
go_uses Live h (and_use k) = go_uses Live h k
go_uses Live h (and_fill k) = go_uses Live h k
go_uses Refilled h (and_use k) = go_uses Refilled h k
go_uses Refilled h (and_fill k) = go_uses Refilled h k
go_uses Vacant (inl e) (and_use k) = cc
go_uses Vacant (inr e) (and_use k) = cc
go_uses Vacant (inl e) (and_fill k) = cc
go_uses Vacant (inr e) (and_fill k) = cc
go_uses Gone (inl e) (and_use k) = cc
go_uses Gone (inr e) (and_use k) = cc
go_uses Gone (inl e) (and_fill k) = cc
go_uses Gone (inr e) (and_fill k) = cc

go_reads : {u : List LifeLetter} → Looks u → go (at Vacant) u ≡ at Vacant
go_reads no_looks = refl
go_reads (and_look k) = go_reads k

then_go : (q r : S) (u w : List LifeLetter) → go q u ≡ r → go q (u ++ w) ≡ go r w
then_go q r u w e = go_append q u w ∙ ap (λ z. go z w) e

linear_done : {w : List LifeLetter} → LinearWord w → go start w ≡ done
linear_done (spent a b c {u = u} h) = then_go (at Live) (at Live) u (spells Spend b ∷ (close c ∷ [])) (go_uses Live (inl refl) h)
linear_done (left_nil a b c {u = u} {r = r} h k) =
    then_go (at Live) (at Live) u (spells Empty b ∷ (r ++ (close c ∷ []))) (go_uses Live (inl refl) h)
    ∙ then_go (at Vacant) (at Vacant) r (close c ∷ []) (go_reads k)
linear_done (spent_nil a b c d {u = u} {r = r} h k) =
    then_go (at Live) (at Live) u (spells Empty b ∷ (r ++ (spells Spend c ∷ (close d ∷ [])))) (go_uses Live (inl refl) h)
    ∙ then_go (at Vacant) (at Vacant) r (spells Spend c ∷ (close d ∷ [])) (go_reads k)
linear_done (filled_again a b c d e {u = u} {r = r} {v = v} h k l) =
    then_go (at Live) (at Live) u (spells Empty b ∷ (r ++ (spells Fill c ∷ (v ++ (spells Spend d ∷ (close e ∷ [])))))) (go_uses Live (inl refl) h)
    ∙ then_go (at Vacant) (at Vacant) r (spells Fill c ∷ (v ++ (spells Spend d ∷ (close e ∷ [])))) (go_reads k)
    ∙ then_go (at Refilled) (at Refilled) v (spells Spend d ∷ (close e ∷ [])) (go_uses Refilled (inr refl) l)

-- words that come to `done` are linear: what stands after each state
data From_gone : List LifeLetter → Type 0 where
  g_close : (a : Position) → From_gone (close a ∷ [])

data From_refilled : List LifeLetter → Type 0 where
  f_spend : (d e : Position) {v : List LifeLetter} → Uses v → From_refilled (v ++ (spells Spend d ∷ (close e ∷ [])))

data From_vacant : List LifeLetter → Type 0 where
  v_nil : (c : Position) {r : List LifeLetter} → Looks r → From_vacant (r ++ (close c ∷ []))
  v_spend : (c d : Position) {r : List LifeLetter} → Looks r → From_vacant (r ++ (spells Spend c ∷ (close d ∷ [])))
  v_fill : (c d e : Position) {r v : List LifeLetter} → Looks r → Uses v → From_vacant (r ++ (spells Fill c ∷ (v ++ (spells Spend d ∷ (close e ∷ [])))))

go_done : (w : List LifeLetter) → go done w ≡ done → w ≡ []
go_done [] e = refl
go_done (m ∷ w) e = let p = go_bad w in cc

close_last : (a : Position) (w : List LifeLetter) → w ≡ [] → From_gone (close a ∷ w)
close_last a w e = subst (λ z. From_gone (close a ∷ z)) (sym e) (g_close a)

from_gone : (w : List LifeLetter) → go (at Gone) w ≡ done → From_gone w
from_gone [] e = cc
from_gone (make a ∷ w) e = let p = go_bad w in cc
from_gone (spells l a ∷ w) e = let p = go_bad w in cc
from_gone (close a ∷ w) e = close_last a w (go_done w e)

spend_refilled : {w : List LifeLetter} (a : Position) → From_gone w → From_refilled (spells Spend a ∷ w)
spend_refilled a (g_close c) = f_spend a c no_uses

use_refilled : {w : List LifeLetter} (a : Position) → From_refilled w → From_refilled (spells Use a ∷ w)
use_refilled a (f_spend d e h) = f_spend d e (and_use {s = a} h)

fill_refilled : {w : List LifeLetter} (a : Position) → From_refilled w → From_refilled (spells Fill a ∷ w)
fill_refilled a (f_spend d e h) = f_spend d e (and_fill {s = a} h)

from_refilled : (w : List LifeLetter) → go (at Refilled) w ≡ done → From_refilled w
from_refilled [] e = cc
from_refilled (make a ∷ w) e = let p = go_bad w in cc
from_refilled (spells Use a ∷ w) e = use_refilled a (from_refilled w e)
from_refilled (spells Fill a ∷ w) e = fill_refilled a (from_refilled w e)
from_refilled (spells Spend a ∷ w) e = spend_refilled a (from_gone w e)
from_refilled (spells Empty a ∷ w) e = let p = go_bad w in cc
from_refilled (spells Need a ∷ w) e = let p = go_bad w in cc
from_refilled (spells Fresh a ∷ w) e = let p = go_bad w in cc
from_refilled (spells Set a ∷ w) e = let p = go_bad w in cc
from_refilled (close a ∷ w) e = let p = go_bad w in cc

spend_vacant : {w : List LifeLetter} (a : Position) → From_gone w → From_vacant (spells Spend a ∷ w)
spend_vacant a (g_close c) = v_spend a c no_looks

use_vacant : {w : List LifeLetter} (a : Position) → From_vacant w → From_vacant (spells Use a ∷ w)
use_vacant a (v_nil c h) = v_nil c (and_look {s = a} h)
use_vacant a (v_spend c d h) = v_spend c d (and_look {s = a} h)
use_vacant a (v_fill c d e h k) = v_fill c d e (and_look {s = a} h) k

fill_vacant : {w : List LifeLetter} (a : Position) → From_refilled w → From_vacant (spells Fill a ∷ w)
fill_vacant a (f_spend d e h) = v_fill a d e no_looks h

close_vacant : (a : Position) (w : List LifeLetter) → w ≡ [] → From_vacant (close a ∷ w)
close_vacant a w e = subst (λ z. From_vacant (close a ∷ z)) (sym e) (v_nil a no_looks)

from_vacant : (w : List LifeLetter) → go (at Vacant) w ≡ done → From_vacant w
from_vacant [] e = cc
from_vacant (make a ∷ w) e = let p = go_bad w in cc
from_vacant (spells Use a ∷ w) e = use_vacant a (from_vacant w e)
from_vacant (spells Fill a ∷ w) e = fill_vacant a (from_refilled w e)
from_vacant (spells Spend a ∷ w) e = spend_vacant a (from_gone w e)
from_vacant (spells Empty a ∷ w) e = let p = go_bad w in cc
from_vacant (spells Need a ∷ w) e = let p = go_bad w in cc
from_vacant (spells Fresh a ∷ w) e = let p = go_bad w in cc
from_vacant (spells Set a ∷ w) e = let p = go_bad w in cc
from_vacant (close a ∷ w) e = close_vacant a w (go_done w e)

spend_live : {w : List LifeLetter} (s a : Position) → From_gone w → LinearWord (make s ∷ (spells Spend a ∷ w))
spend_live s a (g_close c) = spent s a c no_uses

empty_live : {w : List LifeLetter} (s a : Position) → From_vacant w → LinearWord (make s ∷ (spells Empty a ∷ w))
empty_live s a (v_nil c h) = left_nil s a c no_uses h
empty_live s a (v_spend c d h) = spent_nil s a c d no_uses h
empty_live s a (v_fill c d e h k) = filled_again s a c d e no_uses h k

use_live : {w : List LifeLetter} (s x : Position) → LinearWord (make s ∷ w) → LinearWord (make s ∷ (spells Use x ∷ w))
use_live s x (spent a b c h) = spent a b c (and_use {s = x} h)
use_live s x (left_nil a b c h k) = left_nil a b c (and_use {s = x} h) k
use_live s x (spent_nil a b c d h k) = spent_nil a b c d (and_use {s = x} h) k
use_live s x (filled_again a b c d e h k l) = filled_again a b c d e (and_use {s = x} h) k l

fill_live : {w : List LifeLetter} (s x : Position) → LinearWord (make s ∷ w) → LinearWord (make s ∷ (spells Fill x ∷ w))
fill_live s x (spent a b c h) = spent a b c (and_fill {s = x} h)
fill_live s x (left_nil a b c h k) = left_nil a b c (and_fill {s = x} h) k
fill_live s x (spent_nil a b c d h k) = spent_nil a b c d (and_fill {s = x} h) k
fill_live s x (filled_again a b c d e h k l) = filled_again a b c d e (and_fill {s = x} h) k l

from_live : (s : Position) (w : List LifeLetter) → go (at Live) w ≡ done → LinearWord (make s ∷ w)
from_live s [] e = cc
from_live s (make a ∷ w) e = let p = go_bad w in cc
from_live s (spells Use a ∷ w) e = use_live s a (from_live s w e)
from_live s (spells Fill a ∷ w) e = fill_live s a (from_live s w e)
from_live s (spells Spend a ∷ w) e = spend_live s a (from_gone w e)
from_live s (spells Empty a ∷ w) e = empty_live s a (from_vacant w e)
from_live s (spells Need a ∷ w) e = let p = go_bad w in cc
from_live s (spells Fresh a ∷ w) e = let p = go_bad w in cc
from_live s (spells Set a ∷ w) e = let p = go_bad w in cc
from_live s (close a ∷ w) e = let p = go_bad w in cc

done_linear : (w : List LifeLetter) → go start w ≡ done → LinearWord w
done_linear [] e = cc
done_linear (make s ∷ w) e = from_live s w e
done_linear (spells l a ∷ w) e = let p = go_bad w in cc
done_linear (close a ∷ w) e = let p = go_bad w in cc

-- ---- beginnings

begins_good : (w : List LifeLetter) → BeginsLinear w → go start w ≢ bad
begins_good w (z, h) e = let p = linear_done h in let q = go_append start w z in let r = ap (λ s. go s z) e in let t = go_bad z in cc

origin : Position
origin = record { part = Whole; at = 0 }

ends : (q : S) → q ≢ bad → (z : List LifeLetter) × (go q z ≡ done)
ends start h = (make origin ∷ (spells Spend origin ∷ (close origin ∷ [])), refl)
ends (at Live) h = (spells Spend origin ∷ (close origin ∷ []), refl)
ends (at Vacant) h = (spells Spend origin ∷ (close origin ∷ []), refl)
ends (at Refilled) h = (spells Spend origin ∷ (close origin ∷ []), refl)
ends (at Gone) h = (close origin ∷ [], refl)
ends done h = ([], refl)
ends bad h = absurd (h refl)

good_begins : (w : List LifeLetter) → go start w ≢ bad → BeginsLinear w
good_begins w h = let p = ends (go start w) h in (p.0, done_linear (w ++ p.0) (go_append start w p.0 ∙ p.1))

is_bad : (q : S) → (q ≡ bad) ⊎ (q ≢ bad)
is_bad start = inr (λ e. cc)
is_bad (at q) = inr (λ e. cc)
is_bad done = inr (λ e. cc)
is_bad bad = inl refl

not_begins_bad : (w : List LifeLetter) → (BeginsLinear w → ⊥) → go start w ≡ bad
not_begins_bad w h = pick_bad (is_bad (go start w))
  where
    pick_bad : (go start w ≡ bad) ⊎ (go start w ≢ bad) → go start w ≡ bad
    pick_bad (inl e) = e
    pick_bad (inr n) = absurd (h (good_begins w n))

-- ---- a life's word and its run

abbrev ending : Position → Bool → List LifeLetter
ending s b = if b then close s ∷ [] else []

run_go : (o : Outcome) (w : List LetterAt) → go (of_out o) (map life_letter w) ≡ of_out (run o w)
run_go o [] = refl
run_go (fine q) (letter_at l s ∷ w) = run_go (landed (moved q l) s) w
run_go (off t) (letter_at l s ∷ w) = run_go (off t) w

moved_off : (q : State) (l : Letter) (a : Position) → of_out (landed (moved q l) a) ≡ bad → landed (moved q l) a ≡ off a
moved_off q l a e = landed_off (moved q l) e
  where
    landed_off : (o : Option State) → of_out (landed o a) ≡ bad → landed o a ≡ off a
    landed_off None e = refl
    landed_off (Some k) e = cc

map_append : (u w : List LetterAt) (z : List LifeLetter) → map life_letter (u ++ w) ++ z ≡ map life_letter u ++ (map life_letter w ++ z)
map_append [] w z = refl
map_append (m ∷ u) w z = ap (λ r. life_letter m ∷ r) (map_append u w z)

-- where a run goes wrong
Split : State → List LetterAt → Position → Type 0
Split q w t = (u : List LetterAt) × (l : Letter) × (r : List LetterAt) × (k : State) × (w ≡ u ++ (letter_at l t ∷ r)) × (run (fine q) u ≡ fine k) × (landed (moved k l) t ≡ off t)

split_by : (q : State) (l : Letter) (a : Position) (w : List LetterAt) (t : Position) (o : Outcome) → landed (moved q l) a ≡ o → run o w ≡ off t
    → ((k : State) → landed (moved q l) a ≡ fine k → run (fine k) w ≡ off t → Split k w t) → Split q (letter_at l a ∷ w) t
unfolding Split
split_by q l a w t (off b) e h f =
    let i : landed (moved q l) a ≡ off a = moved_off q l a (ap of_out e) in
    let j = run_off b w in
    let same : a ≡ t = cc in
    ([], l, w, q, ap (λ z. letter_at l z ∷ w) same, refl, subst (λ z. landed (moved q l) z ≡ off z) same i)
split_by q l a w t (fine k) e h f =
    let p = f k e h in
    (letter_at l a ∷ p.0, p.1, p.2, p.3, ap (λ z. letter_at l a ∷ z) p.4, ap (λ o. run o p.0) e ∙ p.5, p.6)

split_off : (q : State) (w : List LetterAt) (t : Position) → run (fine q) w ≡ off t → Split q w t
split_off q [] t e = cc
split_off q (letter_at l a ∷ w) t e = split_by q l a w t (landed (moved q l) a) refl e (λ k d h. split_off k w t h)

not_bad : (q : State) (r : S) → r ≡ at q → r ≢ bad
not_bad q r e d = cc

used_blamed : (b : PathBody) (v : PathVariable) (s t : Position) (w : List LetterAt) (x : Way) → Life b v s w x → Split Live w t → Offends b (record { at = t; kind = UsedAfterMove; variable = v })
unfolding Split
used_blamed b v s t w x h (u, l, r, k, e, d, g) =
    offends (make s ∷ map life_letter u) (map life_letter r ++ ending s (closes x)) (spells l t) h
    (ap (λ z. make s ∷ (map life_letter z ++ ending s (closes x))) e ∙ ap (λ z. make s ∷ z) (map_append u (letter_at l t ∷ r) (ending s (closes x))))
    (good_begins (make s ∷ map life_letter u) (not_bad k (go (at Live) (map life_letter u)) come))
    (λ i. begins_good ((make s ∷ map life_letter u) ++ (spells l t ∷ [])) i
    (go_append (at Live) (map life_letter u) (spells l t ∷ []) ∙ ap (λ z. step z (spells l t)) come ∙ ap of_out g))
  where
    come : go (at Live) (map life_letter u) ≡ at k
    come = run_go (fine Live) u ∙ ap of_out d

lost_blamed : (b : PathBody) (v : PathVariable) (s : Position) (w : List LetterAt) (x : Way) (q : State) → Life b v s w x → run (fine Live) w ≡ fine q → closes x ≡ true → is_held q ≡ true
    → Offends b (record { at = s; kind = Lost; variable = v })
lost_blamed b v s w x q h e c k =
    offends (make s ∷ map life_letter w) [] (close s) h
    (ap (λ z. make s ∷ (map life_letter w ++ ending s z)) c)
    (good_begins (make s ∷ map life_letter w) (not_bad q (go (at Live) (map life_letter w)) come))
    (λ i. begins_good ((make s ∷ map life_letter w) ++ (close s ∷ [])) i
    (go_append (at Live) (map life_letter w) (close s ∷ []) ∙ ap (λ z. step z (close s)) come ∙ ap (λ z. if z then bad else done) k))
  where
    come : go (at Live) (map life_letter w) ≡ at q
    come = run_go (fine Live) w ∙ ap of_out e

pub offence_blamed : {b : PathBody} {o : Offence} → Errs Moves b o → Offends b o
offence_blamed (goes_wrong {b = b} {v = v} {s = s} {t = t} {w = w} {x = x} h e) = used_blamed b v s t w x h (split_off Live w t (runs_run e))
offence_blamed (ends_held {b = b} {v = v} {s = s} {w = w} {x = x} {q = q} h e c k) = lost_blamed b v s w x q h (runs_run e) c k

-- ---- and back

Walked : State → List LetterAt → Position → Bool → LifeLetter → Type 0
Walked q w s c m = ((l : Letter) × (t : Position) × (run (fine q) w ≡ off t) × (m ≡ spells l t)) ⊎ ((k : State) × (run (fine q) w ≡ fine k) × (is_held k ≡ true) × (c ≡ true) × (m ≡ close s))

held_by : (b : Bool) → (if b then bad else done) ≡ bad → b ≡ true
held_by true e = refl
held_by false e = cc

nil_is : (p : List LifeLetter) (m : LifeLetter) (r : List LifeLetter) → [] ≡ p ++ (m ∷ r) → ⊥
nil_is [] m r e = cc
nil_is (n ∷ p) m r e = cc

tail_is : {A : Type 0} (a b : A) (u w : List A) → a ∷ u ≡ b ∷ w → u ≡ w
tail_is a b u w e = cc

walk_end : (q : State) (s : Position) (c : Bool) (p : List LifeLetter) (m : LifeLetter) (r : List LifeLetter) → ending s c ≡ p ++ (m ∷ r) → step (go (at q) p) m ≡ bad → Walked q [] s c m
unfolding Walked
walk_end q s true [] m r e h =
    let d : close s ≡ m = cc in
    let i : step (at q) (close s) ≡ bad = subst (λ z. step (at q) z ≡ bad) (sym d) h in
    inr (q, refl, held_by (is_held q) i, refl, sym d)
walk_end q s true (n ∷ p) m r e h = absurd (nil_is p m r (tail_is (close s) n [] (p ++ (m ∷ r)) e))
walk_end q s false p m r e h = absurd (nil_is p m r e)

walk_on : (q : State) (l : Letter) (a : Position) (w : List LetterAt) (s : Position) (c : Bool) (p : List LifeLetter) (m : LifeLetter) (o : Outcome) → landed (moved q l) a ≡ o → go (of_out o) p ≢ bad
    → ((k : State) → landed (moved q l) a ≡ fine k → Walked k w s c m) → Walked q (letter_at l a ∷ w) s c m
unfolding Walked
walk_on q l a w s c p m (off b) e n f = absurd (n (go_bad p))
walk_on q l a w s c p m (fine k) e n f = again (f k e)
  where
    again : Walked k w s c m → Walked q (letter_at l a ∷ w) s c m
    again (inl (l', t, h, d)) = inl (l', t, ap (λ o. run o w) e ∙ h, d)
    again (inr (k', h, i, j, d)) = inr (k', ap (λ o. run o w) e ∙ h, i, j, d)

walk_here : (q : State) (l : Letter) (a : Position) (w : List LetterAt) (s : Position) (c : Bool) (m : LifeLetter) → spells l a ≡ m → step (at q) m ≡ bad → Walked q (letter_at l a ∷ w) s c m
unfolding Walked
walk_here q l a w s c m d h =
    let i = moved_off q l a (subst (λ z. step (at q) z ≡ bad) (sym d) h) in
    inl (l, a, ap (λ o. run o w) i ∙ run_off a w, sym d)

walk : (q : State) (w : List LetterAt) (s : Position) (c : Bool) (p : List LifeLetter) (m : LifeLetter) (r : List LifeLetter) → map life_letter w ++ ending s c ≡ p ++ (m ∷ r) → go (at q) p ≢ bad → step (go (at q) p) m ≡ bad → Walked q w s c m
walk q [] s c p m r e n h = walk_end q s c p m r e h
walk q (letter_at l a ∷ w) s c [] m r e n h = walk_here q l a w s c m (let d : spells l a ≡ m = cc in d) h
walk q (letter_at l a ∷ w) s c (f ∷ p) m r e n h =
    let d : spells l a ≡ f = cc in
    let i = tail_is (spells l a) f (map life_letter w ++ ending s c) (p ++ (m ∷ r)) e in
    let n' : go (of_out (landed (moved q l) a)) p ≢ bad = subst (λ z. go (step (at q) z) p ≢ bad) (sym d) n in
    let h' : step (go (of_out (landed (moved q l) a)) p) m ≡ bad = subst (λ z. step (go (step (at q) z) p) m ≡ bad) (sym d) h in
    walk_on q l a w s c p m (landed (moved q l) a) refl n'
    (λ k g. walk k w s c p m r i (subst (λ o. go (of_out o) p ≢ bad) g n') (subst (λ o. step (go (of_out o) p) m ≡ bad) g h'))

walked_offence : (b : PathBody) (v : PathVariable) (s : Position) (w : List LetterAt) (x : Way) (m : LifeLetter) → Life b v s w x → Walked Live w s (closes x) m → Errs Moves b (offence_of v m)
unfolding Walked
walked_offence b v s w x m h (inl (l, t, e, d)) = subst (λ z. Errs Moves b (offence_of v z)) (sym d) (goes_wrong h (run_runs Live w (off t) e))
walked_offence b v s w x m h (inr (k, e, i, c, d)) = subst (λ z. Errs Moves b (offence_of v z)) (sym d) (ends_held h (run_runs Live w (fine k) e) c i)

from_start : (b : PathBody) (v : PathVariable) (s : Position) (w : List LetterAt) (x : Way) (p r : List LifeLetter) (m : LifeLetter) → Life b v s w x → life_word s w x ≡ p ++ (m ∷ r)
    → go start p ≢ bad → step (go start p) m ≡ bad → Errs Moves b (offence_of v m)
from_start b v s w x [] r m h e n k =
    let d : make s ≡ m = cc in
    let i : step start (make s) ≡ bad = subst (λ z. step start z ≡ bad) (sym d) k in
    absurd (not_bad Live (at Live) refl i)
from_start b v s w x (f ∷ p) r m h e n k =
    let d : make s ≡ f = cc in
    let i = tail_is (make s) f (map life_letter w ++ ending s (closes x)) (p ++ (m ∷ r)) e in
    walked_offence b v s w x m h (walk Live w s (closes x) p m r i
    (subst (λ z. go (step start z) p ≢ bad) (sym d) n) (subst (λ z. step (go (step start z) p) m ≡ bad) (sym d) k))

pub blamed_offence : {b : PathBody} {o : Offence} → Offends b o → Errs Moves b o
blamed_offence (offends {b = b} {v = v} {s = s} {w = w} {x = x} p r m h e i n) =
    from_start b v s w x p r m h e (begins_good p i) (sym (go_append start p (m ∷ [])) ∙ not_begins_bad (p ++ (m ∷ [])) n)

-- ---- linear lives

abbrev NoErrs : PathBody → Type 0
NoErrs b = (o : Offence) → Errs Moves b o → ⊥

linear_fine : (b : PathBody) (v : PathVariable) (s : Position) (w : List LetterAt) (x : Way) → NoErrs b → Life b v s w x → (o : Outcome) → run (fine Live) w ≡ o → (q : State) × (run (fine Live) w ≡ fine q)
linear_fine b v s w x n h (fine q) e = (q, e)
linear_fine b v s w x n h (off t) e = absurd (n (record { at = t; kind = UsedAfterMove; variable = v }) (goes_wrong h (run_runs Live w (off t) e)))

life_go : (s : Position) (w : List LetterAt) (c : Bool) (q : State) → run (fine Live) w ≡ fine q → go start (make s ∷ (map life_letter w ++ ending s c)) ≡ go (at q) (ending s c)
life_go s w c q e = go_append (at Live) (map life_letter w) (ending s c) ∙ ap (λ z. go z (ending s c)) (run_go (fine Live) w ∙ ap of_out e)

closed_linear : (s : Position) (w : List LetterAt) (q : State) (k : Bool) → run (fine Live) w ≡ fine q → is_held q ≡ k → (k ≡ true → ⊥) → LinearWord (make s ∷ (map life_letter w ++ (close s ∷ [])))
closed_linear s w q true e h n = absurd (n refl)
closed_linear s w q false e h n = done_linear (make s ∷ (map life_letter w ++ (close s ∷ []))) (life_go s w true q e ∙ ap (λ z. if z then bad else done) h)

linear_by : (b : PathBody) (v : PathVariable) (s : Position) (w : List LetterAt) (x : Way) → NoErrs b → Life b v s w x → ((q : State) × (run (fine Live) w ≡ fine q)) → IsLinear x (life_word s w x)
linear_by b v s w Never n h (q, e) = good_begins (life_word s w Never) (not_bad q (go start (life_word s w Never)) (life_go s w false q e))
linear_by b v s w Next n h (q, e) = closed_linear s w q (is_held q) e refl (λ k. n (record { at = s; kind = Lost; variable = v }) (ends_held h (run_runs Live w (fine q) e) refl k))
linear_by b v s w Broken n h (q, e) = closed_linear s w q (is_held q) e refl (λ k. n (record { at = s; kind = Lost; variable = v }) (ends_held h (run_runs Live w (fine q) e) refl k))
linear_by b v s w Continued n h (q, e) = closed_linear s w q (is_held q) e refl (λ k. n (record { at = s; kind = Lost; variable = v }) (ends_held h (run_runs Live w (fine q) e) refl k))
linear_by b v s w Returned n h (q, e) = closed_linear s w q (is_held q) e refl (λ k. n (record { at = s; kind = Lost; variable = v }) (ends_held h (run_runs Live w (fine q) e) refl k))

pub all_linear : (b : PathBody) → NoErrs b → Linear b
all_linear b n v s w x h = linear_by b v s w x n h (linear_fine b v s w x n h (run (fine Live) w) refl)

append_nil : {A : Type 0} (w : List A) → w ++ [] ≡ w
append_nil [] = refl
append_nil (m ∷ w) = ap (λ z. m ∷ z) (append_nil w)

append_append : {A : Type 0} (u v w : List A) → (u ++ v) ++ w ≡ u ++ (v ++ w)
append_append [] v w = refl
append_append (m ∷ u) v w = ap (λ z. m ∷ z) (append_append u v w)

whole_begins : (x : Way) (w : List LifeLetter) → IsLinear x w → BeginsLinear w
whole_begins Never w h = h
whole_begins Next w h = ([], subst LinearWord (sym (append_nil w)) h)
whole_begins Broken w h = ([], subst LinearWord (sym (append_nil w)) h)
whole_begins Continued w h = ([], subst LinearWord (sym (append_nil w)) h)
whole_begins Returned w h = ([], subst LinearWord (sym (append_nil w)) h)

part_begins : (p : List LifeLetter) (m : LifeLetter) (r : List LifeLetter) → BeginsLinear (p ++ (m ∷ r)) → BeginsLinear (p ++ (m ∷ []))
part_begins p m r (z, h) = (r ++ z, subst LinearWord (append_append p (m ∷ r) z ∙ sym (append_append p (m ∷ []) (r ++ z))) h)

pub blame_is_real : (b : PathBody) (o : Offence) → Offends b o → Linear b → ⊥
blame_is_real b o (offends {v = v} {s = s} {w = w} {x = x} p r m h e i n) l =
    n (part_begins p m r (subst BeginsLinear e (whole_begins x (life_word s w x) (l v s w x h))))

-- ---- the answer in the words of the definition

pub answer_by : (b : PathBody) (o : Option Offence) → Verdict Moves b o → MovesOf b o
answer_by b None n = all_linear b n
answer_by b (Some o) h = record { offends = offence_blamed h.errs; is_first = λ p i. h.is_first p (blamed_offence i) }
