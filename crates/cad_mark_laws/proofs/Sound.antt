-- Each state in the marks is what some word comes to, and where there are no marks some word or life goes wrong.
use Rattle.std.proofs.Common.{◌≡◌, refl, sym, ◌∙◌, ap, subst, ◌⊎◌, inl, inr, ℕ, ◌+◌, ◌≤◌, arith, zero, suc, Bool, true, false, not, List, [], ◌∷◌, ◌++◌, nat_eq, eqb-true, append_assoc, append-nil}
use Rattle.std.proofs.lemmas.Bool.{and_parts, and_from, both_ways, eq-eqb}
use Rattle.std.specs.Prelude.{Option, Some, None, if◌then◌else◌}
use Rattle.cad_paths.specs.declared.letter.Letter.{Letter}
use Rattle.cad_paths.specs.declared.letter.Way.{Way}
use Rattle.cad_paths.specs.declared.letter.Way.TheVariants.{Next, Broken, Continued, Returned, Never}
use Rattle.cad_paths.specs.declared.letter.Position.{Position}
use Rattle.cad_paths.specs.Paths.{PathVariable, PathBody, leave, spell, seq, either, loop, catch, scope, LetterAt, spelled, goes_on, caught, Words, by_leaving, by_letter, by_both, by_first_alone, by_left, by_right, by_no_turn, by_turn, by_last_turn, by_catching, by_scope, Life, in_scope, in_inner, in_first, in_second, in_left, in_right, in_turn, in_catch}
use Rattle.cad_paths.specs.Linear.{closes}
use Rattle.cad_paths.specs.Marks.{Mark, MarkEntry, joined, after_spelling, meet, join, says_less, all_say_less, Leaves, nowhere, only, together, cut_off, catching, ◌>=>◌, entered, followed, turned, turned_by, turns, begin_mark, ends_well, left_scope, scope_left, marks, among, declares_anew}
use Rattle.cad_mark_laws.proofs.States.{none_is, some_none, nil_cons, same_head, same_tail, State, is_in, Inhabited, run, run_on, run_wrong, less_in, less_by, joined_left, in_joined, size, size_most, size_least, size_grown, begins, begin_is, begin_in, bad_end, ends_badly}
use Rattle.cad_mark_laws.proofs.Entries.{variables, mark_at, HasState, AreInhabited, distinct, same_some, same_mark, is_among, is_other, here, behind, spelling_keeps, spelling_from, spelling_inhabited, spelling_stuck, meet_keeps, meet_from, meet_split, meet_inhabited, Differs, differs}
use Rattle.cad_mark_laws.proofs.Leaves.{at, Good, Holds, good_join, good_map, tested, leaving}
use Rattle.cad_mark_laws.proofs.Complete.{begun, complete}

-- some path leaves by this way
abbrev pub Comes : PathBody → Way → Type 0
Comes b x = (w : List LetterAt) × Words None b w x

-- some word leaves by this way, and comes to this state from one in the marks
abbrev pub From : PathBody → Way → List MarkEntry → ℕ → State → Type 0
From b x m u t = (s : State) × (w : List LetterAt) × HasState u s m × Words (Some u) b w x × (run (Some s) w ≡ Some t)

-- some word of a variable in scope isn't allowed
abbrev pub WrongWord : PathBody → List MarkEntry → Type 0
WrongWord b m = (u : ℕ) × (s : State) × (w : List LetterAt) × (x : Way) × HasState u s m × Words (Some u) b w x × (run (Some s) w ≡ None)

abbrev pub IsBad : Bool → Way → Option State → Type 0
IsBad fields x None = Unit {0}
IsBad fields x (Some q) = (closes x ≡ true) × (q ≡ bad_end fields)

-- some life isn't allowed, or ends as it may not
abbrev pub WrongLife : Bool → PathBody → Type 0
WrongLife fields b = (v : PathVariable) × (p : Position) × (w : List LetterAt) × (x : Way) × Life b v p w x × IsBad fields x (run (Some (begins fields)) w)

abbrev pub Wrong : Bool → PathBody → List MarkEntry → Type 0
Wrong fields b m = WrongWord b m ⊎ WrongLife fields b

abbrev pub Leads : PathBody → List MarkEntry → List ℕ → Leaves → Type 0
Leads b m us l = (x : Way) → Good us (Comes b x) (From b x m) (at l x)

abbrev pub Judged : Bool → PathBody → List MarkEntry → List ℕ → Option Leaves → Type 0
Judged fields b m us None = Wrong fields b m
Judged fields b m us (Some l) = Leads b m us l

wrong_life : (fields : Bool) (x : Way) (q : Option State) → q ≡ None → IsBad fields x q
wrong_life fields x None e = tt
wrong_life fields x (Some k) e = absurd (some_none k e)

bad_life : (fields : Bool) (x : Way) (q : Option State) → closes x ≡ true → q ≡ Some (bad_end fields) → IsBad fields x q
bad_life fields x None d e = absurd (none_is (bad_end fields) e)
bad_life fields x (Some k) d e = (d, same_some k (bad_end fields) e)

-- ---- words

-- a word of the first part, and what may stand behind it
behind_first : (who : Option ℕ) (a b : PathBody) (u : List LetterAt) (x : Way) → Words who a u x → ((w : List LetterAt) × (y : Way) × Words who b w y)
    → (w : List LetterAt) × (v : List LetterAt) × (y : Way) × Words who (seq a b) w y × (w ≡ u ++ v)
behind_first who a b u Next h p = (u ++ p.0, p.0, p.1, by_both h p.2, refl)
behind_first who a b u Broken h p = (u, [], Broken, by_first_alone refl h, sym (append-nil u))
behind_first who a b u Continued h p = (u, [], Continued, by_first_alone refl h, sym (append-nil u))
behind_first who a b u Returned h p = (u, [], Returned, by_first_alone refl h, sym (append-nil u))
behind_first who a b u Never h p = (u, [], Never, by_first_alone refl h, sym (append-nil u))

pub some_word : (who : Option ℕ) (b : PathBody) → (w : List LetterAt) × (x : Way) × Words who b w x
some_word who (leave x) = ([], x, by_leaving)
some_word who (spell v l s) = (spelled who v l s, Next, by_letter)
some_word who (seq a b) = let p = some_word who a in let q = behind_first who a b p.0 p.1 p.2 (some_word who b) in (q.0, q.2, q.3)
some_word who (either a b) = let p = some_word who a in (p.0, p.1, by_left p.2)
some_word who (loop a) = ([], Next, by_no_turn)
some_word who (catch c a) = let p = some_word who a in (p.0, caught c p.1, by_catching p.2)
some_word who (scope v s b) = let p = some_word who b in (p.0, p.1, by_scope p.2)

-- ---- what leaves, and letters

only_good : (us : List ℕ) (m : List MarkEntry) → variables m ≡ us → AreInhabited m → (x y : Way) → Good us (Comes (leave x) y) (From (leave x) y m) (at (only x m) y)
only_good us m e f Next Next = (e, ([], by_leaving), f, λ u s h. (s, [], h, by_leaving, refl))
only_good us m e f Next Broken = tt
only_good us m e f Next Continued = tt
only_good us m e f Next Returned = tt
only_good us m e f Next Never = tt
only_good us m e f Broken Next = tt
only_good us m e f Broken Broken = (e, ([], by_leaving), f, λ u s h. (s, [], h, by_leaving, refl))
only_good us m e f Broken Continued = tt
only_good us m e f Broken Returned = tt
only_good us m e f Broken Never = tt
only_good us m e f Continued Next = tt
only_good us m e f Continued Broken = tt
only_good us m e f Continued Continued = (e, ([], by_leaving), f, λ u s h. (s, [], h, by_leaving, refl))
only_good us m e f Continued Returned = tt
only_good us m e f Continued Never = tt
only_good us m e f Returned Next = tt
only_good us m e f Returned Broken = tt
only_good us m e f Returned Continued = tt
only_good us m e f Returned Returned = (e, ([], by_leaving), f, λ u s h. (s, [], h, by_leaving, refl))
only_good us m e f Returned Never = tt
only_good us m e f Never Next = tt
only_good us m e f Never Broken = tt
only_good us m e f Never Continued = tt
only_good us m e f Never Returned = tt
only_good us m e f Never Never = tt

spell_good : (v : ℕ) (i : Letter) (p : Position) (us : List ℕ) (m n : List MarkEntry) → variables m ≡ us → AreInhabited m → after_spelling v i m ≡ Some n → Leads (spell v i p) m us (only Next n)
spell_good v i p us m n e f d Next = (
  spelling_keeps v i m n d ∙ e,
  (spelled None v i p, by_letter),
  spelling_inhabited v i m n d f,
  λ u t h. let g = spelling_from v i p m n u t d f h in (g.0, spelled (Some u) v i p, g.1, by_letter, g.2),
)
spell_good v i p us m n e f d Broken = tt
spell_good v i p us m n e f d Continued = tt
spell_good v i p us m n e f d Returned = tt
spell_good v i p us m n e f d Never = tt

spell_judged : (fields : Bool) (v : ℕ) (i : Letter) (p : Position) (us : List ℕ) (m : List MarkEntry) (o : Option (List MarkEntry)) → variables m ≡ us → AreInhabited m → after_spelling v i m ≡ o
    → Judged fields (spell v i p) m us (o >=> (λ n. Some (only Next n)))
spell_judged fields v i p us m None e f d = let g = spelling_stuck v i p m d in inl (v, g.0, spelled (Some v) v i p, Next, g.1, by_letter, g.2)
spell_judged fields v i p us m (Some n) e f d = spell_good v i p us m n e f d

-- ---- sequence

seq_wrong : (fields : Bool) (a b : PathBody) (m : List MarkEntry) → Wrong fields a m → Wrong fields (seq a b) m
seq_wrong fields a b m (inl (u, s, w, x, h, i, e)) =
    let q = behind_first (Some u) a b w x i (some_word (Some u) b) in
    inl (u, s, q.0, q.2, h, q.3, ap (λ z. run (Some s) z) q.4 ∙ run_wrong (Some s) w q.1 e)
seq_wrong fields a b m (inr (v, p, w, x, h, i)) = inr (v, p, w, x, in_first h, i)

from_first : (a b : PathBody) (x : Way) (m : List MarkEntry) → goes_on x ≡ false → (u : ℕ) (t : State) → From a x m u t → From (seq a b) x m u t
from_first a b x m e u t (s, w, h, i, r) = (s, w, h, by_first_alone e i, r)

from_both : (a b : PathBody) (x : Way) (m n : List MarkEntry) → ((u : ℕ) (s : State) → HasState u s n → From a Next m u s) → (u : ℕ) (t : State) → From b x n u t → From (seq a b) x m u t
from_both a b x m n f u t (s, w, h, i, r) = let g = f u s h in (g.0, g.1 ++ w, g.2, by_both g.3 i, run_on (Some g.0) (Some s) g.1 w g.4 ∙ r)

both_wrong : (fields : Bool) (a b : PathBody) (m n : List MarkEntry) → Comes a Next → ((u : ℕ) (s : State) → HasState u s n → From a Next m u s) → Wrong fields b n → Wrong fields (seq a b) m
both_wrong fields a b m n c f (inl (u, s, w, x, h, i, e)) = let g = f u s h in inl (u, g.0, g.1 ++ w, x, g.2, by_both g.3 i, run_on (Some g.0) (Some s) g.1 w g.4 ∙ e)
both_wrong fields a b m n c f (inr (v, p, w, x, h, i)) = inr (v, p, w, x, in_second c.1 h, i)

first_good : (a b : PathBody) (us : List ℕ) (m : List MarkEntry) (x : Way) (o : Option (List MarkEntry)) → goes_on x ≡ false → Good us (Comes a x) (From a x m) o → Good us (Comes (seq a b) x) (From (seq a b) x m) o
first_good a b us m x o e h = good_map us (Comes a x) (Comes (seq a b) x) (From a x m) (From (seq a b) x m) o (λ c. (c.0, by_first_alone e c.1)) (from_first a b x m e) h

seq_good : (a b : PathBody) (us : List ℕ) (m : List MarkEntry) (x y : Leaves) → Leads a m us x → Leads (seq a b) m us y → Leads (seq a b) m us (together (cut_off x) y)
seq_good a b us m x y f g Next = g Next
seq_good a b us m x y f g Broken = good_join us (Comes (seq a b) Broken) (From (seq a b) Broken m) x.broken y.broken (first_good a b us m Broken x.broken refl (f Broken)) (g Broken)
seq_good a b us m x y f g Continued = good_join us (Comes (seq a b) Continued) (From (seq a b) Continued m) x.continued y.continued (first_good a b us m Continued x.continued refl (f Continued)) (g Continued)
seq_good a b us m x y f g Returned = good_join us (Comes (seq a b) Returned) (From (seq a b) Returned m) x.returned y.returned (first_good a b us m Returned x.returned refl (f Returned)) (g Returned)
seq_good a b us m x y f g Never = tt

nothing_leads : (b : PathBody) (us : List ℕ) (m : List MarkEntry) → Leads b m us nowhere
nothing_leads b us m Next = tt
nothing_leads b us m Broken = tt
nothing_leads b us m Continued = tt
nothing_leads b us m Returned = tt
nothing_leads b us m Never = tt

both_leads : (a b : PathBody) (us : List ℕ) (m n : List MarkEntry) (y : Leaves) → Comes a Next → ((u : ℕ) (s : State) → HasState u s n → From a Next m u s) → Leads b n us y → Leads (seq a b) m us y
both_leads a b us m n y c f g x =
    good_map us (Comes b x) (Comes (seq a b) x) (From b x n) (From (seq a b) x m) (at y x) (λ d. (c.0 ++ d.0, by_both c.1 d.1)) (from_both a b x m n f) (g x)

seq_on : (fields : Bool) (a b : PathBody) (us : List ℕ) (m n : List MarkEntry) (x : Leaves) (y : Option Leaves) → Leads a m us x → Comes a Next → ((u : ℕ) (s : State) → HasState u s n → From a Next m u s)
    → Judged fields b n us y → Judged fields (seq a b) m us (y >=> (λ z. Some (together (cut_off x) z)))
seq_on fields a b us m n x None f c g h = both_wrong fields a b m n c g h
seq_on fields a b us m n x (Some y) f c g h = seq_good a b us m x y f (both_leads a b us m n y c g h)

seq_entered : (fields : Bool) (a b : PathBody) (us : List ℕ) (m : List MarkEntry) (x : Leaves) (o : Option (List MarkEntry)) → Leads a m us x → Good us (Comes a Next) (From a Next m) o
    → ((n : List MarkEntry) → variables n ≡ us → AreInhabited n → Judged fields b n us (marks fields b n)) → Judged fields (seq a b) m us (entered o (marks fields b) >=> (λ z. Some (together (cut_off x) z)))
seq_entered fields a b us m x None f h g = seq_good a b us m x nowhere f (nothing_leads (seq a b) us m)
seq_entered fields a b us m x (Some n) f h g = seq_on fields a b us m n x (marks fields b n) f h.1 h.3 (g n h.0 h.2)

seq_judged : (fields : Bool) (a b : PathBody) (us : List ℕ) (m : List MarkEntry) (o : Option Leaves) → Judged fields a m us o
    → ((n : List MarkEntry) → variables n ≡ us → AreInhabited n → Judged fields b n us (marks fields b n)) → Judged fields (seq a b) m us (o >=> (λ x. followed x (marks fields b)))
seq_judged fields a b us m None h g = seq_wrong fields a b m h
seq_judged fields a b us m (Some x) h g = seq_entered fields a b us m x x.next h (h Next) g

-- ---- either

left_wrong : (fields : Bool) (a b : PathBody) (m : List MarkEntry) → Wrong fields a m → Wrong fields (either a b) m
left_wrong fields a b m (inl (u, s, w, x, h, i, e)) = inl (u, s, w, x, h, by_left i, e)
left_wrong fields a b m (inr (v, p, w, x, h, i)) = inr (v, p, w, x, in_left h, i)

right_wrong : (fields : Bool) (a b : PathBody) (m : List MarkEntry) → Wrong fields b m → Wrong fields (either a b) m
right_wrong fields a b m (inl (u, s, w, x, h, i, e)) = inl (u, s, w, x, h, by_right i, e)
right_wrong fields a b m (inr (v, p, w, x, h, i)) = inr (v, p, w, x, in_right h, i)

either_join : (a b : PathBody) (us : List ℕ) (m : List MarkEntry) (w : Way) (o p : Option (List MarkEntry)) → Good us (Comes a w) (From a w m) o → Good us (Comes b w) (From b w m) p
    → Good us (Comes (either a b) w) (From (either a b) w m) (join o p)
either_join a b us m w o p g h =
    good_join us (Comes (either a b) w) (From (either a b) w m) o p
    (good_map us (Comes a w) (Comes (either a b) w) (From a w m) (From (either a b) w m) o (λ c. (c.0, by_left c.1)) (λ u t k. (k.0, k.1, k.2, by_left k.3, k.4)) g)
    (good_map us (Comes b w) (Comes (either a b) w) (From b w m) (From (either a b) w m) p (λ c. (c.0, by_right c.1)) (λ u t k. (k.0, k.1, k.2, by_right k.3, k.4)) h)

either_leads : (a b : PathBody) (us : List ℕ) (m : List MarkEntry) (x y : Leaves) → Leads a m us x → Leads b m us y → Leads (either a b) m us (together x y)
either_leads a b us m x y f g Next = either_join a b us m Next x.next y.next (f Next) (g Next)
either_leads a b us m x y f g Broken = either_join a b us m Broken x.broken y.broken (f Broken) (g Broken)
either_leads a b us m x y f g Continued = either_join a b us m Continued x.continued y.continued (f Continued) (g Continued)
either_leads a b us m x y f g Returned = either_join a b us m Returned x.returned y.returned (f Returned) (g Returned)
either_leads a b us m x y f g Never = tt

either_judged : (fields : Bool) (a b : PathBody) (us : List ℕ) (m : List MarkEntry) (o p : Option Leaves) → Judged fields a m us o → Judged fields b m us p
    → Judged fields (either a b) m us (o >=> (λ x. p >=> (λ y. Some (together x y))))
either_judged fields a b us m None p g h = left_wrong fields a b m g
either_judged fields a b us m (Some x) None g h = right_wrong fields a b m h
either_judged fields a b us m (Some x) (Some y) g h = either_leads a b us m x y g h

-- ---- catch

catch_wrong : (fields : Bool) (c : Way) (a : PathBody) (m : List MarkEntry) → Wrong fields a m → Wrong fields (catch c a) m
catch_wrong fields c a m (inl (u, s, w, x, h, i, e)) = inl (u, s, w, caught c x, h, by_catching i, e)
catch_wrong fields c a m (inr (v, p, w, x, h, i)) = inr (v, p, w, x, in_catch h, i)

catch_good : (c : Way) (a : PathBody) (us : List ℕ) (m : List MarkEntry) (x : Way) (o : Option (List MarkEntry)) → Good us (Comes a x) (From a x m) o → Good us (Comes (catch c a) (caught c x)) (From (catch c a) (caught c x) m) o
catch_good c a us m x o h =
    good_map us (Comes a x) (Comes (catch c a) (caught c x)) (From a x m) (From (catch c a) (caught c x) m) o (λ d. (d.0, by_catching d.1)) (λ u t k. (k.0, k.1, k.2, by_catching k.3, k.4)) h

catch_join : (c : Way) (a : PathBody) (us : List ℕ) (m : List MarkEntry) (o p : Option (List MarkEntry)) → Good us (Comes (catch c a) Next) (From (catch c a) Next m) o → Good us (Comes (catch c a) Next) (From (catch c a) Next m) p
    → Good us (Comes (catch c a) Next) (From (catch c a) Next m) (join o p)
catch_join c a us m o p g h = good_join us (Comes (catch c a) Next) (From (catch c a) Next m) o p g h

catch_leads : (c : Way) (a : PathBody) (us : List ℕ) (m : List MarkEntry) (x : Leaves) → Leads a m us x → Leads (catch c a) m us (catching c x)
catch_leads Broken a us m x f Next = catch_join Broken a us m x.next x.broken (catch_good Broken a us m Next x.next (f Next)) (catch_good Broken a us m Broken x.broken (f Broken))
catch_leads Broken a us m x f Broken = tt
catch_leads Broken a us m x f Continued = catch_good Broken a us m Continued x.continued (f Continued)
catch_leads Broken a us m x f Returned = catch_good Broken a us m Returned x.returned (f Returned)
catch_leads Broken a us m x f Never = tt
catch_leads Continued a us m x f Next = catch_join Continued a us m x.next x.continued (catch_good Continued a us m Next x.next (f Next)) (catch_good Continued a us m Continued x.continued (f Continued))
catch_leads Continued a us m x f Broken = catch_good Continued a us m Broken x.broken (f Broken)
catch_leads Continued a us m x f Continued = tt
catch_leads Continued a us m x f Returned = catch_good Continued a us m Returned x.returned (f Returned)
catch_leads Continued a us m x f Never = tt
catch_leads Returned a us m x f Next = catch_join Returned a us m x.next x.returned (catch_good Returned a us m Next x.next (f Next)) (catch_good Returned a us m Returned x.returned (f Returned))
catch_leads Returned a us m x f Broken = catch_good Returned a us m Broken x.broken (f Broken)
catch_leads Returned a us m x f Continued = catch_good Returned a us m Continued x.continued (f Continued)
catch_leads Returned a us m x f Returned = tt
catch_leads Returned a us m x f Never = tt
catch_leads Next a us m x f y = catch_good Next a us m y (at x y) (f y)
catch_leads Never a us m x f y = catch_good Never a us m y (at x y) (f y)

catch_judged : (fields : Bool) (c : Way) (a : PathBody) (us : List ℕ) (m : List MarkEntry) (o : Option Leaves) → Judged fields a m us o → Judged fields (catch c a) m us (o >=> (λ x. Some (catching c x)))
catch_judged fields c a us m None h = catch_wrong fields c a m h
catch_judged fields c a us m (Some x) h = catch_leads c a us m x h

-- ---- scope

-- a state of the newest variable
newest : (fields : Bool) (v : PathVariable) (m : List MarkEntry) (u : ℕ) (s : State) → nat_eq v.number u ≡ true → HasState u s (begun fields v m) → s ≡ begins fields
newest fields v m u s e (q, h, i) =
    let p : begin_mark fields ≡ q = same_mark (mark_at u (begun fields v m)) (begin_mark fields) q (here (record { variable = v.number; mark = begin_mark fields }) m u e) h in
    begin_is fields s (subst (λ z. is_in z s ≡ true) (sym p) i)

-- a state of another
older : (fields : Bool) (v : PathVariable) (m : List MarkEntry) (u : ℕ) (s : State) → nat_eq v.number u ≡ false → HasState u s (begun fields v m) → HasState u s m
older fields v m u s e (q, h, i) = (q, sym (behind (record { variable = v.number; mark = begin_mark fields }) m u e) ∙ h, i)

begin_wrong : (fields : Bool) (v : PathVariable) (p : Position) (b : PathBody) (m : List MarkEntry) (u : ℕ) (s : State) (w : List LetterAt) (x : Way) (c : Bool) → nat_eq v.number u ≡ c
    → HasState u s (begun fields v m) → Words (Some u) b w x → run (Some s) w ≡ None → Wrong fields (scope v p b) m
begin_wrong fields v p b m u s w x true c h i e =
    inr (
      v,
      p,
      w,
      x,
      in_scope (subst (λ z. Words (Some z) b w x) (sym (eqb-true v.number u c)) i),
      wrong_life fields x (run (Some (begins fields)) w) (ap (λ z. run (Some z) w) (sym (newest fields v m u s c h)) ∙ e),
    )
begin_wrong fields v p b m u s w x false c h i e = inl (u, s, w, x, older fields v m u s c h, by_scope i, e)

scope_wrong : (fields : Bool) (v : PathVariable) (p : Position) (b : PathBody) (m : List MarkEntry) → Wrong fields b (begun fields v m) → Wrong fields (scope v p b) m
scope_wrong fields v p b m (inl (u, s, w, x, h, i, e)) = begin_wrong fields v p b m u s w x (nat_eq v.number u) refl h i e
scope_wrong fields v p b m (inr (z, q, w, x, h, i)) = inr (z, q, w, x, in_inner h, i)

-- the newest variable ends as it may not
ends_wrong : (fields : Bool) (v : PathVariable) (p : Position) (b : PathBody) (m : List MarkEntry) (x : Way) → closes x ≡ true → From b x (begun fields v m) v.number (bad_end fields) → WrongLife fields (scope v p b)
ends_wrong fields v p b m x c (s, w, h, i, e) =
    let d = newest fields v m v.number s (eq-eqb v.number v.number refl) h in
    (v, p, w, x, in_scope i, bad_life fields x (run (Some (begins fields)) w) c (ap (λ z. run (Some z) w) (sym d) ∙ e))

-- what leaves the scope by a way
abbrev pub WayJudged : Bool → PathVariable → Position → PathBody → List ℕ → List MarkEntry → Way → Option (Option (List MarkEntry)) → Type 0
WayJudged fields v p b us m x None = WrongLife fields (scope v p b)
WayJudged fields v p b us m x (Some q) = Good us (Comes (scope v p b) x) (From (scope v p b) x m) q

way_tested : (fields : Bool) (v : PathVariable) (p : Position) (b : PathBody) (us : List ℕ) (m : List MarkEntry) (x : Way) (y : MarkEntry) (all : List MarkEntry) (c : Bool)
    → not (among us v.number) ≡ true → variables m ≡ us → closes x ≡ true → ends_well fields y.mark ≡ c
    → Good (v.number ∷ us) (Comes b x) (From b x (begun fields v m)) (Some (y ∷ all)) → WayJudged fields v p b us m x (tested c all)
way_tested fields v p b us m x y all true apart k d e h =
    let first = same_head y.variable v.number (variables all) us h.0 in
    let others = same_tail y.variable v.number (variables all) us h.0 in
    let other = λ (u : ℕ) (q : Mark) (i : mark_at u all ≡ Some q). is_other us v.number u apart (subst (λ z. among z u ≡ true) others (is_among all u q i)) in
    let up = λ (u : ℕ) (q : Mark) (i : mark_at u all ≡ Some q). behind y all u (subst (λ z. nat_eq z u ≡ false) (sym first) (other u q i)) ∙ i in (
      others,
      (h.1.0, by_scope h.1.1),
      λ u q i. h.2 u q (up u q i),
      λ u s i. let g = h.3 u s (i.0, up u i.0 i.1, i.2) in (g.0, g.1, older fields v m u g.0 (other u i.0 i.1) g.2, by_scope g.3, g.4),
    )
way_tested fields v p b us m x y all false apart k d e h =
    let first = same_head y.variable v.number (variables all) us h.0 in
    ends_wrong fields v p b m x d (h.3 v.number (bad_end fields) (y.mark, here y all v.number (eq-eqb y.variable v.number first), ends_badly fields y.mark e))

way_judged : (fields : Bool) (v : PathVariable) (p : Position) (b : PathBody) (us : List ℕ) (m : List MarkEntry) (x : Way) (o : Option (List MarkEntry))
    → not (among us v.number) ≡ true → variables m ≡ us → closes x ≡ true
    → Good (v.number ∷ us) (Comes b x) (From b x (begun fields v m)) o → WayJudged fields v p b us m x (left_scope fields o)
way_judged fields v p b us m x None apart k d h = tt
way_judged fields v p b us m x (Some []) apart k d h = absurd (nil_cons v.number us h.0)
way_judged fields v p b us m x (Some (y ∷ all)) apart k d h = way_tested fields v p b us m x y all (ends_well fields y.mark) apart k d refl h

scope_leads : (fields : Bool) (v : PathVariable) (p : Position) (b : PathBody) (us : List ℕ) (m : List MarkEntry) (n k c r : Option (List MarkEntry))
    → WayJudged fields v p b us m Next (Some n) → WayJudged fields v p b us m Broken (Some k) → WayJudged fields v p b us m Continued (Some c) → WayJudged fields v p b us m Returned (Some r)
    → Leads (scope v p b) m us (leaving n k c r)
scope_leads fields v p b us m n k c r f g h i Next = f
scope_leads fields v p b us m n k c r f g h i Broken = g
scope_leads fields v p b us m n k c r f g h i Continued = h
scope_leads fields v p b us m n k c r f g h i Returned = i
scope_leads fields v p b us m n k c r f g h i Never = tt

scope_ways : (fields : Bool) (v : PathVariable) (p : Position) (b : PathBody) (us : List ℕ) (m : List MarkEntry) (n k c r : Option (Option (List MarkEntry)))
    → WayJudged fields v p b us m Next n → WayJudged fields v p b us m Broken k → WayJudged fields v p b us m Continued c → WayJudged fields v p b us m Returned r
    → Judged fields (scope v p b) m us (n >=> (λ x. k >=> (λ y. c >=> (λ z. r >=> (λ w. Some (leaving x y z w))))))
scope_ways fields v p b us m None k c r f g h i = inr f
scope_ways fields v p b us m (Some x) None c r f g h i = inr g
scope_ways fields v p b us m (Some x) (Some y) None r f g h i = inr h
scope_ways fields v p b us m (Some x) (Some y) (Some z) None f g h i = inr i
scope_ways fields v p b us m (Some x) (Some y) (Some z) (Some w) f g h i = scope_leads fields v p b us m x y z w f g h i

scope_judged : (fields : Bool) (v : PathVariable) (p : Position) (b : PathBody) (us : List ℕ) (m : List MarkEntry) (o : Option Leaves) → not (among us v.number) ≡ true → variables m ≡ us
    → Judged fields b (begun fields v m) (v.number ∷ us) o → Judged fields (scope v p b) m us (o >=> scope_left fields)
scope_judged fields v p b us m None apart k h = scope_wrong fields v p b m h
scope_judged fields v p b us m (Some a) apart k h =
    scope_ways fields v p b us m (left_scope fields a.next) (left_scope fields a.broken) (left_scope fields a.continued) (left_scope fields a.returned)
    (way_judged fields v p b us m Next a.next apart k refl (h Next)) (way_judged fields v p b us m Broken a.broken apart k refl (h Broken))
    (way_judged fields v p b us m Continued a.continued apart k refl (h Continued)) (way_judged fields v p b us m Returned a.returned apart k refl (h Returned))

begun_inhabited : (fields : Bool) (v : PathVariable) (m : List MarkEntry) → AreInhabited m → AreInhabited (begun fields v m)
begun_inhabited fields v m f u q h = pick (nat_eq v.number u) refl
  where
    pick : (c : Bool) → nat_eq v.number u ≡ c → Inhabited q
    pick true e = subst Inhabited (same_mark (mark_at u (begun fields v m)) (begin_mark fields) q (here (record { variable = v.number; mark = begin_mark fields }) m u e) h) (begins fields, begin_in fields)
    pick false e = f u q (sym (behind (record { variable = v.number; mark = begin_mark fields }) m u e) ∙ h)

-- ---- loop

-- words of a loop one behind the other
turn_more : (who : Option ℕ) {b a : PathBody} {u : List LetterAt} {x : Way} → Words who b u x → b ≡ loop a → x ≡ Next → (w : List LetterAt) (y : Way) → Words who (loop a) w y → Words who (loop a) (u ++ w) y
turn_more who by_leaving e d w y h = cc
turn_more who by_letter e d w y h = cc
turn_more who (by_both i j) e d w y h = cc
turn_more who (by_first_alone g i) e d w y h = cc
turn_more who (by_left i) e d w y h = cc
turn_more who (by_right i) e d w y h = cc
turn_more who by_no_turn e d w y h = h
turn_more who {a = a} (by_turn {a = c} {u = u} {w = v} i j) e d w y h =
    let p : c ≡ a = cc in
    subst (λ z. Words who (loop a) z y) (sym (append_assoc u v w)) (by_turn (subst (λ z. Words who z u Next) p i) (turn_more who j e d w y h))
turn_more who (by_last_turn {x = x} g i) e d w y h = let p : goes_on x ≡ true = ap goes_on d in absurd (both_ways (goes_on x) g p)
turn_more who (by_catching i) e d w y h = cc
turn_more who (by_scope i) e d w y h = cc

-- a turn is a word of the loop
turn_word : (who : Option ℕ) (a : PathBody) (w : List LetterAt) (x : Way) → Words who a w x → (y : Way) × Words who (loop a) (w ++ []) y
turn_word who a w Next h = (Next, by_turn h by_no_turn)
turn_word who a w Broken h = (Broken, subst (λ z. Words who (loop a) z Broken) (sym (append-nil w)) (by_last_turn refl h))
turn_word who a w Continued h = (Continued, subst (λ z. Words who (loop a) z Continued) (sym (append-nil w)) (by_last_turn refl h))
turn_word who a w Returned h = (Returned, subst (λ z. Words who (loop a) z Returned) (sym (append-nil w)) (by_last_turn refl h))
turn_word who a w Never h = (Never, subst (λ z. Words who (loop a) z Never) (sym (append-nil w)) (by_last_turn refl h))

module _ (fields : Bool) (a : PathBody) (us : List ℕ) (m0 : List MarkEntry) (apart : distinct us ≡ true) (anew : declares_anew us a ≡ true)
    (judge : (m : List MarkEntry) → variables m ≡ us → AreInhabited m → Judged fields a m us (marks fields a m)) where
  -- turns lead from the loop's begin to these marks
  abbrev pub Reached : List MarkEntry → Type 0
  Reached m = (u : ℕ) (s : State) → HasState u s m → From (loop a) Next m0 u s

  -- a turn adds nothing to this mark
  abbrev pub Settled : ℕ → Mark → Type 0
  Settled u q = (s t : State) (w : List LetterAt) → is_in q s ≡ true → Words (Some u) a w Next → run (Some s) w ≡ Some t → is_in q t ≡ true

  -- each mark is settled, or has as many states
  abbrev pub Progress : ℕ → List MarkEntry → Type 0
  Progress k m = (u : ℕ) (q : Mark) → mark_at u m ≡ Some q → Settled u q ⊎ (k ≤ size q)

  loop_wrong : (m : List MarkEntry) → Reached m → Wrong fields a m → Wrong fields (loop a) m0
  loop_wrong m f (inl (u, s, w, x, h, i, e)) =
      let q = f u s h in let j = turn_word (Some u) a w x i in
      inl (u, q.0, q.1 ++ (w ++ []), j.0, q.2, turn_more (Some u) q.3 refl refl (w ++ []) j.0 j.1, run_on (Some q.0) (Some s) q.1 (w ++ []) q.4 ∙ run_wrong (Some s) w [] e)
  loop_wrong m f (inr (v, p, w, x, h, i)) = inr (v, p, w, x, in_turn h, i)

  from_last : (m : List MarkEntry) (x : Way) → Reached m → goes_on x ≡ false → (u : ℕ) (t : State) → From a x m u t → From (loop a) x m0 u t
  from_last m x f e u t (s, w, h, i, r) =
      let q = f u s h in (q.0, q.1 ++ w, q.2, turn_more (Some u) q.3 refl refl w x (by_last_turn e i), run_on (Some q.0) (Some s) q.1 w q.4 ∙ r)

  last_good : (m : List MarkEntry) (x : Way) (o : Option (List MarkEntry)) → Reached m → goes_on x ≡ false → Good us (Comes a x) (From a x m) o → Good us (Comes (loop a) x) (From (loop a) x m0) o
  last_good m x o f e h = good_map us (Comes a x) (Comes (loop a) x) (From a x m) (From (loop a) x m0) o (λ c. (c.0, by_last_turn e c.1)) (from_last m x f e) h

  loop_leads : (m : List MarkEntry) (x : Leaves) → variables m ≡ us → AreInhabited m → Reached m → Leads a m us x → Leads (loop a) m0 us (turned m x)
  loop_leads m x e i f h Next = (e, ([], by_no_turn), i, f)
  loop_leads m x e i f h Broken = last_good m Broken x.broken f refl (h Broken)
  loop_leads m x e i f h Continued = last_good m Continued x.continued f refl (h Continued)
  loop_leads m x e i f h Returned = last_good m Returned x.returned f refl (h Returned)
  loop_leads m x e i f h Never = tt

  -- what a turn brings to a settled mark was there
  settled_less : (m n : List MarkEntry) (u : ℕ) (q r : Mark) → Good us (Comes a Next) (From a Next m) (Some n) → mark_at u m ≡ Some q → mark_at u n ≡ Some r → Settled u q → says_less r q ≡ true
  settled_less m n u q r h d e f = less_by r q (λ t i. comes t (h.3 u t (r, e, i)))
    where
      comes : (t : State) → From a Next m u t → is_in q t ≡ true
      comes t (s, w, (k, j, l), c, b) = f s t w (subst (λ z. is_in z s ≡ true) (same_mark (mark_at u m) k q j d) l) c b

  -- and a mark to which a turn brings nothing is settled
  less_settled : (m n : List MarkEntry) (x : Leaves) (u : ℕ) (q r : Mark) → variables m ≡ us → marks fields a m ≡ Some x → x.next ≡ Some n → mark_at u m ≡ Some q → mark_at u n ≡ Some r → says_less r q ≡ true → Settled u q
  less_settled m n x u q r k d e h j l s t w i c b =
      let g = complete fields u c m x s (subst (λ z. declares_anew z a ≡ true) (sym k) anew) d (q, h, i) in
      let o : HasState u g.0 n = subst (λ z. Holds u g.0 z) e g.2 in
      let same : g.0 ≡ t = same_some g.0 t (sym g.1 ∙ b) in
      subst (λ z. is_in q z ≡ true) same (less_in r q g.0 l (subst (λ z. is_in z g.0 ≡ true) (same_mark (mark_at u n) o.0 r o.1 j) o.2))

  settled_joined : (u : ℕ) (q r : Mark) → Settled u q → says_less r q ≡ true → Settled u (joined q r)
  settled_joined u q r f l s t w i c b = joined_left q r t (f s t w (old (in_joined q r s i)) c b)
    where
      old : (is_in q s ≡ true) ⊎ (is_in r s ≡ true) → is_in q s ≡ true
      old (inl h) = h
      old (inr h) = less_in r q s l h

  progress_by : (k : ℕ) (m n : List MarkEntry) (x : Leaves) (u : ℕ) (q r : Mark) (c : Bool) → variables m ≡ us → marks fields a m ≡ Some x → x.next ≡ Some n → Good us (Comes a Next) (From a Next m) (Some n)
      → mark_at u m ≡ Some q → mark_at u n ≡ Some r → says_less r q ≡ c → Settled u q ⊎ (k ≤ size q) → Settled u (joined q r) ⊎ (k + 1 ≤ size (joined q r))
  progress_by k m n x u q r true e d i g h j l f = inl (settled_joined u q r (less_settled m n x u q r e d i h j l) l)
  progress_by k m n x u q r false e d i g h j l (inl f) = absurd (both_ways (says_less r q) l (settled_less m n u q r g h j f))
  progress_by k m n x u q r false e d i g h j l (inr f) = let p = size_grown q r l in inr (omega arith)

  progress_on : (k : ℕ) (m n : List MarkEntry) (x : Leaves) → variables m ≡ us → marks fields a m ≡ Some x → x.next ≡ Some n → Good us (Comes a Next) (From a Next m) (Some n) → Progress k m → Progress (k + 1) (meet m n)
  progress_on k m n x e d i g f u z h =
      let p = meet_from m n u z (g.0 ∙ sym e) h in
      subst (λ y. Settled u y ⊎ (k + 1 ≤ size y)) (sym p.4) (progress_by k m n x u p.0 p.1 (says_less p.1 p.0) e d i g p.2 p.3 refl (f u p.0 p.2))

  -- a turn that brings a state isn't the last that there may be
  not_last : (k : ℕ) (m n : List MarkEntry) → Good us (Comes a Next) (From a Next m) (Some n) → Progress k m → Differs n m → k + 1 ≤ 4
  not_last k m n g f (u, r, q, h, i, e) = pick (f u q i)
    where
      pick : Settled u q ⊎ (k ≤ size q) → k + 1 ≤ 4
      pick (inl j) = absurd (both_ways (says_less r q) e (settled_less m n u q r g i h j))
      pick (inr j) = let p = size_grown q r e in let l = size_most (joined q r) in omega arith

  reached_on : (m n : List MarkEntry) → variables m ≡ us → Reached m → Good us (Comes a Next) (From a Next m) (Some n) → Reached (meet m n)
  reached_on m n e f g u s h = pick (meet_split m n u s (g.0 ∙ sym e) h)
    where
      turn : From a Next m u s → From (loop a) Next m0 u s
      turn (t, w, i, c, r) =
          let q = f u t i in (
            q.0,
            q.1 ++ (w ++ []),
            q.2,
            turn_more (Some u) q.3 refl refl (w ++ []) Next (by_turn c by_no_turn),
            run_on (Some q.0) (Some t) q.1 (w ++ []) q.4 ∙ (ap (λ z. run (Some t) z) (append-nil w) ∙ r),
          )

      pick : HasState u s m ⊎ HasState u s n → From (loop a) Next m0 u s
      pick (inl i) = f u s i
      pick (inr i) = turn (g.3 u s i)

  abbrev pub Turning : ℕ → Type 0
  Turning i = (k : ℕ) (m : List MarkEntry) → 1 ≤ i → k + i ≡ 5 → variables m ≡ us → AreInhabited m → Reached m → Progress k m → Judged fields (loop a) m0 us (turns i (marks fields a) m)

  less_judged : (i k : ℕ) (m n : List MarkEntry) (x : Leaves) (b : Bool) → k + suc i ≡ 5 → variables m ≡ us → AreInhabited m → Reached m → Progress k m → marks fields a m ≡ Some x → x.next ≡ Some n → all_say_less n m ≡ b
      → Leads a m us x → Good us (Comes a Next) (From a Next m) (Some n) → Turning i → Judged fields (loop a) m0 us (if b then Some (turned m x) else turns i (marks fields a) (meet m n))
  less_judged i k m n x true c e f r p d h l j g t = loop_leads m x e f r j
  less_judged i k m n x false c e f r p d h l j g t =
      let same : variables n ≡ variables m = g.0 ∙ sym e in
      let more = not_last k m n g p (differs n m same (subst (λ z. distinct z ≡ true) (sym e) apart) l) in
      t (k + 1) (meet m n) (omega arith) (omega arith) (meet_keeps m n same ∙ e) (meet_inhabited m n same f) (reached_on m n e r g) (progress_on k m n x e d h g p)

  next_judged : (i k : ℕ) (m : List MarkEntry) (x : Leaves) (o : Option (List MarkEntry)) → k + suc i ≡ 5 → variables m ≡ us → AreInhabited m → Reached m → Progress k m → marks fields a m ≡ Some x → x.next ≡ o
      → Leads a m us x → Good us (Comes a Next) (From a Next m) o → Turning i → Judged fields (loop a) m0 us (turned_by (turns i (marks fields a)) m x o)
  next_judged i k m x None c e f r p d h j g t = loop_leads m x e f r j
  next_judged i k m x (Some n) c e f r p d h j g t = less_judged i k m n x (all_say_less n m) c e f r p d h refl j g t

  turn_judged : (i k : ℕ) (m : List MarkEntry) (o : Option Leaves) → k + suc i ≡ 5 → variables m ≡ us → AreInhabited m → Reached m → Progress k m → marks fields a m ≡ o
      → Judged fields a m us o → Turning i → Judged fields (loop a) m0 us (o >=> (λ x. turned_by (turns i (marks fields a)) m x x.next))
  turn_judged i k m None c e f r p d j t = loop_wrong m r j
  turn_judged i k m (Some x) c e f r p d j t = next_judged i k m x x.next c e f r p d refl j (j Next) t

  turns_judged : (i : ℕ) → Turning i
  turns_judged zero k m h c e f r p = absurd (omega arith)
  turns_judged (suc i) k m h c e f r p = turn_judged i k m (marks fields a m) c e f r p refl (judge m e f) (turns_judged i)

  loop_judged : variables m0 ≡ us → AreInhabited m0 → Judged fields (loop a) m0 us (turns 4 (marks fields a) m0)
  loop_judged e f = turns_judged 4 1 m0 (omega arith) refl e f (λ u s h. (s, [], h, by_no_turn, refl)) (λ u q h. inr (size_least q (f u q h)))

-- ---- all

sound : (fields : Bool) (b : PathBody) (us : List ℕ) (m : List MarkEntry) → variables m ≡ us → distinct us ≡ true → declares_anew us b ≡ true → AreInhabited m → Judged fields b m us (marks fields b m)
sound fields (leave x) us m e c d f = only_good us m e f x
sound fields (spell v i p) us m e c d f = spell_judged fields v i p us m (after_spelling v i m) e f refl
sound fields (seq a b) us m e c d f =
    let k = and_parts (declares_anew us a) (declares_anew us b) d in
    seq_judged fields a b us m (marks fields a m) (sound fields a us m e c k.0 f) (λ n g h. sound fields b us n g c k.1 h)
sound fields (either a b) us m e c d f =
    let k = and_parts (declares_anew us a) (declares_anew us b) d in
    either_judged fields a b us m (marks fields a m) (marks fields b m) (sound fields a us m e c k.0 f) (sound fields b us m e c k.1 f)
sound fields (loop a) us m e c d f = loop_judged fields a us m c d (λ n g h. sound fields a us n g c d h) e f
sound fields (catch w a) us m e c d f = catch_judged fields w a us m (marks fields a m) (sound fields a us m e c d f)
sound fields (scope v p b) us m e c d f =
    let k = and_parts (not (among us v.number)) (declares_anew (v.number ∷ us) b) d in
    scope_judged fields v p b us m (marks fields b (begun fields v m)) k.0 e
    (sound fields b (v.number ∷ us) (begun fields v m) (ap (λ z. v.number ∷ z) e) (and_from (not (among us v.number)) (distinct us) k.0 c) k.1 (begun_inhabited fields v m f))

-- a body without marks has a life that isn't allowed, or ends as it may not
pub unmarked : (fields : Bool) (b : PathBody) → declares_anew [] b ≡ true → marks fields b [] ≡ None → WrongLife fields b
unmarked fields b d e = pick (subst (λ z. Judged fields b [] [] z) e (sound fields b [] [] refl refl d (λ u q h. absurd (none_is q h))))
  where
    pick : Wrong fields b [] → WrongLife fields b
    pick (inl (u, s, w, x, (q, h, i), c, r)) = absurd (none_is q h)
    pick (inr h) = h
