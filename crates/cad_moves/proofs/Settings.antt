-- The machine for fields goes wrong exactly where a field is wrongly set or used.
use Rattle.std.proofs.Common.{◌≡◌, refl, sym, ◌∙◌, ap, subst, ◌⊎◌, inl, inr, Bool, true, false, List, [], ◌∷◌, ◌++◌}
use Rattle.std.specs.Prelude.{Option, Some, None}
use Rattle.cad_paths.specs.declared.letter.Letter.{Letter}
use Rattle.cad_paths.specs.declared.letter.Letter.TheVariants.{Use, Fill, Spend, Empty, Need, Fresh, Set}
use Rattle.cad_paths.specs.declared.letter.Way.{Way}
use Rattle.cad_paths.specs.declared.letter.Position.{Position}
use Rattle.cad_paths.specs.declared.letter.MoveKind.TheVariants.{UsedAfterMove, Lost}
use Rattle.cad_paths.specs.Paths.{PathVariable, PathBody, LetterAt, letter_at, Life}
use Rattle.cad_paths.specs.Linear.{closes, NotAfter, Offence}
use Rattle.cad_paths.specs.Initialisation.{IsSet, set_here, set_later, Misset, used_unset, set_again, left_unset, FirstMisset, InitialisationOf}
use Rattle.cad_moves.specs.declared.state.Rules.TheVariants.{Fields}
use Rattle.cad_moves.specs.declared.state.State.{State}
use Rattle.cad_moves.specs.declared.state.State.TheVariants.{Live, Vacant, Refilled, Gone}
use Rattle.cad_moves.specs.Code.Machine.{set, field_moved, is_misset, Outcome, fine, off, Runs, at_end, is_off, goes, is_held, Errs, goes_wrong, ends_held, Verdict}
use Rattle.cad_moves.proofs.Sweeps.{run_on}

-- ---- the state after a word

abbrev after : State → List LetterAt → State
after q [] = q
after q (letter_at l s ∷ w) = after (field_moved q l) w

runs_after : (q : State) (w : List LetterAt) → Runs Fields q w (fine (after q w))
runs_after q [] = at_end
runs_after q (letter_at l s ∷ w) = goes refl (runs_after (field_moved q l) w)

after_is : {q : State} {w : List LetterAt} {o : Outcome} → Runs Fields q w o → (k : State) → o ≡ fine k → after q w ≡ k
after_is at_end k e = cc
after_is (is_off h) k e = cc
after_is (goes {q = q} {k = j} {l = l} {w = w} h i) k e = let d : field_moved q l ≡ j = cc in ap (λ z. after z w) d ∙ after_is i k e

stays_set : (w : List LetterAt) → after Vacant w ≡ Vacant
stays_set [] = refl
stays_set (letter_at Set s ∷ w) = stays_set w
stays_set (letter_at Use s ∷ w) = stays_set w
stays_set (letter_at Fill s ∷ w) = stays_set w
stays_set (letter_at Spend s ∷ w) = stays_set w
stays_set (letter_at Empty s ∷ w) = stays_set w
stays_set (letter_at Need s ∷ w) = stays_set w
stays_set (letter_at Fresh s ∷ w) = stays_set w

set_is : {w : List LetterAt} → IsSet w → after Live w ≡ Vacant
set_is (set_here {w = w}) = stays_set w
set_is (set_later {m = letter_at Set s} {w = w} h) = stays_set w
set_is (set_later {m = letter_at Use s} h) = set_is h
set_is (set_later {m = letter_at Fill s} h) = set_is h
set_is (set_later {m = letter_at Spend s} h) = set_is h
set_is (set_later {m = letter_at Empty s} h) = set_is h
set_is (set_later {m = letter_at Need s} h) = set_is h
set_is (set_later {m = letter_at Fresh s} h) = set_is h

Told : List LetterAt → State → Type 0
Told w k = ((k ≡ Live) × (IsSet w → ⊥)) ⊎ ((k ≡ Vacant) × IsSet w)

no_set : IsSet [] → ⊥
no_set h = elim h [ ]

told_behind : (l : Letter) (s : Position) (w : List LetterAt) (k : State) → ((IsSet w → ⊥) → IsSet (letter_at l s ∷ w) → ⊥) → Told w k → Told (letter_at l s ∷ w) k
unfolding Told
told_behind l s w k f (inl (e, n)) = inl (e, f n)
told_behind l s w k f (inr (e, h)) = inr (e, set_later h)

not_behind : (l : Letter) (s : Position) (w : List LetterAt) → (l ≡ Set → ⊥) → (IsSet w → ⊥) → IsSet (letter_at l s ∷ w) → ⊥
not_behind l s w d n set_here = d refl
not_behind l s w d n (set_later h) = n h

told : (w : List LetterAt) → Told w (after Live w)
unfolding Told
told [] = inl (refl, no_set)
told (letter_at Set s ∷ w) = inr (stays_set w, set_here)
told (letter_at Use s ∷ w) = told_behind Use s w (after Live w) (not_behind Use s w (λ e. cc)) (told w)
told (letter_at Fill s ∷ w) = told_behind Fill s w (after Live w) (not_behind Fill s w (λ e. cc)) (told w)
told (letter_at Spend s ∷ w) = told_behind Spend s w (after Live w) (not_behind Spend s w (λ e. cc)) (told w)
told (letter_at Empty s ∷ w) = told_behind Empty s w (after Live w) (not_behind Empty s w (λ e. cc)) (told w)
told (letter_at Need s ∷ w) = told_behind Need s w (after Live w) (not_behind Need s w (λ e. cc)) (told w)
told (letter_at Fresh s ∷ w) = told_behind Fresh s w (after Live w) (not_behind Fresh s w (λ e. cc)) (told w)

unset_by : (w : List LetterAt) (k : State) → Told w k → (IsSet w → ⊥) → k ≡ Live
unfolding Told
unset_by w k (inl (e, n)) h = e
unset_by w k (inr (e, i)) h = absurd (h i)

unset_is : (w : List LetterAt) → (IsSet w → ⊥) → after Live w ≡ Live
unset_is w h = unset_by w (after Live w) (told w) h

live_unset_by : (w : List LetterAt) (k : State) → Told w k → k ≡ Live → IsSet w → ⊥
unfolding Told
live_unset_by w k (inl (e, n)) d = n
live_unset_by w k (inr (e, i)) d = cc

vacant_set_by : (w : List LetterAt) (k : State) → Told w k → k ≡ Vacant → IsSet w
unfolding Told
vacant_set_by w k (inl (e, n)) d = cc
vacant_set_by w k (inr (e, i)) d = i

-- ---- what is wrong is found

runs_to : (w : List LetterAt) (k : State) → after Live w ≡ k → Runs Fields Live w (fine k)
runs_to w k e = subst (λ z. Runs Fields Live w (fine z)) e (runs_after Live w)

letter_off : (q : State) (w before behind : List LetterAt) (l : Letter) (t : Position) → w ≡ before ++ (letter_at l t ∷ behind) → after Live before ≡ q → is_misset q l ≡ true → Runs Fields Live w (off t)
letter_off q w before behind l t e d h = subst (λ z. Runs Fields Live z (off t)) (sym e) (run_on (runs_to before q d) (is_off h))

pub misset_errs : {b : PathBody} {s : Position} → Misset b s → (o : Offence) × Errs Fields b o × (o.at ≡ s)
misset_errs (used_unset {v = v} {t = t} {w = w} before behind l e n) =
    (record { at = t; kind = UsedAfterMove; variable = v }, goes_wrong l (letter_off Live w before behind Need t e (unset_is before n) refl), refl)
misset_errs (set_again {v = v} {t = t} {w = w} before behind l e h) =
    (record { at = t; kind = UsedAfterMove; variable = v }, goes_wrong l (letter_off Vacant w before behind Fresh t e (set_is h) refl), refl)
misset_errs (left_unset {v = v} {s = s} {w = w} l c n) =
    (record { at = s; kind = Lost; variable = v }, ends_held l (runs_to w Live (unset_is w n)) c refl, refl)

-- ---- what is found is wrong

Split : State → List LetterAt → Position → Type 0
Split q w t = (before : List LetterAt) × (l : Letter) × (behind : List LetterAt) × (w ≡ before ++ (letter_at l t ∷ behind)) × (is_misset (after q before) l ≡ true)

split_on : (q k : State) (l : Letter) (s : Position) (w : List LetterAt) (t : Position) → field_moved q l ≡ k → Split k w t → Split q (letter_at l s ∷ w) t
unfolding Split
split_on q k l s w t e (before, j, behind, d, h) = (letter_at l s ∷ before, j, behind, ap (λ z. letter_at l s ∷ z) d, subst (λ z. is_misset (after z before) j ≡ true) (sym e) h)

split : {q : State} {w : List LetterAt} {o : Outcome} → Runs Fields q w o → (t : Position) → o ≡ off t → Split q w t
unfolding Split
split at_end t e = cc
split (is_off {q = q} {l = l} {s = s} {w = w} h) t e = let p : s ≡ t = cc in ([], l, w, ap (λ z. letter_at l z ∷ w) p, h)
split (goes {q = q} {k = k} {l = l} {s = s} {w = w} h i) t e = split_on q k l s w t (let d : field_moved q l ≡ k = cc in d) (split i t e)

wrong_by : (b : PathBody) (v : PathVariable) (s t : Position) (w : List LetterAt) (x : Way) (before behind : List LetterAt) (l : Letter) (k : State) → Life b v s w x
    → w ≡ before ++ (letter_at l t ∷ behind) → after Live before ≡ k → is_misset k l ≡ true → Misset b t
wrong_by b v s t w x before behind Need Live h e d i = used_unset before behind h e (live_unset_by before (after Live before) (told before) d)
wrong_by b v s t w x before behind Fresh Vacant h e d i = set_again before behind h e (vacant_set_by before (after Live before) (told before) d)
wrong_by b v s t w x before behind Use Live h e d i = cc
wrong_by b v s t w x before behind Fill Live h e d i = cc
wrong_by b v s t w x before behind Spend Live h e d i = cc
wrong_by b v s t w x before behind Empty Live h e d i = cc
wrong_by b v s t w x before behind Fresh Live h e d i = cc
wrong_by b v s t w x before behind Set Live h e d i = cc
wrong_by b v s t w x before behind Use Vacant h e d i = cc
wrong_by b v s t w x before behind Fill Vacant h e d i = cc
wrong_by b v s t w x before behind Spend Vacant h e d i = cc
wrong_by b v s t w x before behind Empty Vacant h e d i = cc
wrong_by b v s t w x before behind Need Vacant h e d i = cc
wrong_by b v s t w x before behind Set Vacant h e d i = cc
wrong_by b v s t w x before behind l Refilled h e d i = cc
wrong_by b v s t w x before behind l Gone h e d i = cc

wrong_split : (b : PathBody) (v : PathVariable) (s t : Position) (w : List LetterAt) (x : Way) → Life b v s w x → Split Live w t → Misset b t
unfolding Split
wrong_split b v s t w x h (before, l, behind, e, i) = wrong_by b v s t w x before behind l (after Live before) h e refl i

-- a field ends unset or set
held_by : (w : List LetterAt) (k : State) → Told w k → is_held k ≡ true → IsSet w → ⊥
unfolding Told
held_by w k (inl (e, n)) h = n
held_by w k (inr (e, i)) h = let d : is_held Vacant ≡ true = subst (λ z. is_held z ≡ true) e h in cc

pub errs_misset : {b : PathBody} {o : Offence} → Errs Fields b o → Misset b o.at
errs_misset (goes_wrong {b = b} {v = v} {s = s} {t = t} {w = w} {x = x} h e) = wrong_split b v s t w x h (split e t refl)
errs_misset (ends_held {w = w} {q = q} h e c i) = left_unset h c (held_by w (after Live w) (told w) (subst (λ z. is_held z ≡ true) (sym (after_is e q refl)) i))

abbrev place_of : Option Offence → Option Position
place_of None = None
place_of (Some o) = Some o.at

pub initialisation_by : (b : PathBody) (o : Option Offence) → Verdict Fields b o → InitialisationOf b (place_of o)
initialisation_by b None n = λ s h. (let p = misset_errs h in n p.0 p.1)
initialisation_by b (Some o) h = record {
  is_wrong = errs_misset h.errs;
  is_first = λ t i. (let p = misset_errs i in subst (λ z. NotAfter o.at z) p.2 (h.is_first p.0 p.1).by_position);
}
