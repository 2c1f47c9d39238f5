-- What a word comes to stands in the marks.
use Rattle.std.proofs.Common.{◌≡◌, refl, sym, ◌∙◌, ap, subst, ℕ, Bool, true, not, List, ◌∷◌}
use Rattle.std.proofs.lemmas.Bool.{and_parts}
use Rattle.std.specs.Prelude.{Option, Some, None}
use Rattle.cad_paths.specs.declared.letter.Way.{Way}
use Rattle.cad_paths.specs.declared.letter.Way.TheVariants.{Next}
use Rattle.cad_paths.specs.Paths.{PathVariable, PathBody, leave, spell, seq, either, loop, catch, scope, LetterAt, caught, Words, by_leaving, by_letter, by_both, by_first_alone, by_left, by_right, by_no_turn, by_turn, by_last_turn, by_catching, by_scope}
use Rattle.cad_paths.specs.Marks.{MarkEntry, after_spelling, Leaves, nowhere, only, together, cut_off, catching, ◌>=>◌, entered, followed, begin_mark, scope_left, marks, among, declares_anew}
use Rattle.cad_mark_laws.specs.Laws.{IsStable}
use Rattle.cad_mark_laws.proofs.States.{State, run, run_then, less_in}
use Rattle.cad_mark_laws.proofs.Entries.{variables, HasState, same_some, other_mark, is_among, is_other, behind, spelling_keeps, spelling_to, says_less_at}
use Rattle.cad_mark_laws.proofs.Leaves.{bind_some, Over, Holds, OverAll, HoldsAt, nowhere_over, only_over, together_over, cut_over, catching_over, turned_over, only_at, together_left, together_right, cut_at, turned_at, catching_at, turns_stand, turns_again, grows_keep, grows_hold, scope_over, scope_at}

-- ---- the variables stay

entered_over : (us : List ℕ) (o : Option (List MarkEntry)) (f : List MarkEntry → Option Leaves) (l : Leaves) → Over us o → entered o f ≡ Some l
    → ((n : List MarkEntry) → variables n ≡ us → f n ≡ Some l → OverAll us l) → OverAll us l
entered_over us None f l d e g = subst (λ z. OverAll us z) (same_some nowhere l e) (nowhere_over us)
entered_over us (Some n) f l d e g = g n d e

abbrev pub begun : Bool → PathVariable → List MarkEntry → List MarkEntry
begun fields v m = record { variable = v.number; mark = begin_mark fields } ∷ m

pub shape : (fields : Bool) (b : PathBody) (m : List MarkEntry) (l : Leaves) → marks fields b m ≡ Some l → OverAll (variables m) l
shape fields (leave x) m l e = subst (λ z. OverAll (variables m) z) (same_some (only x m) l e) (only_over x m)
shape fields (spell v i p) m l e =
    let k = bind_some (after_spelling v i m) (λ n. Some (only Next n)) l e in
    subst (λ z. OverAll (variables m) z) (same_some (only Next k.0) l k.2) (subst (λ z. OverAll z (only Next k.0)) (spelling_keeps v i m k.0 k.1) (only_over Next k.0))
shape fields (seq a b) m l e =
    let k = bind_some (marks fields a m) (λ x. followed x (marks fields b)) l e in
    let j = bind_some (entered k.0.next (marks fields b)) (λ y. Some (together (cut_off k.0) y)) l k.2 in
    let g = shape fields a m k.0 k.1 in
    subst (λ z. OverAll (variables m) z) (same_some (together (cut_off k.0) j.0) l j.2)
    (together_over (variables m) (cut_off k.0) j.0 (cut_over (variables m) k.0 g)
    (entered_over (variables m) k.0.next (marks fields b) j.0 (g Next) j.1 (λ n d h. subst (λ z. OverAll z j.0) d (shape fields b n j.0 h))))
shape fields (either a b) m l e =
    let k = bind_some (marks fields a m) (λ x. marks fields b m >=> (λ y. Some (together x y))) l e in
    let j = bind_some (marks fields b m) (λ y. Some (together k.0 y)) l k.2 in
    subst (λ z. OverAll (variables m) z) (same_some (together k.0 j.0) l j.2) (together_over (variables m) k.0 j.0 (shape fields a m k.0 k.1) (shape fields b m j.0 j.1))
shape fields (loop a) m l e =
    let k = turns_stand 4 (marks fields a) m l e in
    let d : variables k.0 ≡ variables m = grows_keep (variables m) (marks fields a) (λ n x h i. subst (λ z. OverAll z x) h (shape fields a n x i)) k.2 refl in
    subst (λ z. OverAll (variables m) z) (sym k.5) (turned_over (variables m) k.0 k.1 d (subst (λ z. OverAll z k.1) d (shape fields a k.0 k.1 k.3)))
shape fields (catch c a) m l e =
    let k = bind_some (marks fields a m) (λ x. Some (catching c x)) l e in
    subst (λ z. OverAll (variables m) z) (same_some (catching c k.0) l k.2) (catching_over (variables m) c k.0 (shape fields a m k.0 k.1))
shape fields (scope v s b) m l e =
    let k = bind_some (marks fields b (begun fields v m)) (scope_left fields) l e in
    scope_over fields v.number (variables m) k.0 l k.2 (shape fields b (begun fields v m) k.0 k.1)

-- ---- words

-- a word comes from this state to one that leaves so
abbrev pub Lands : Leaves → Way → ℕ → State → List LetterAt → Type 0
Lands l x u s w = (t : State) × (run (Some s) w ≡ Some t) × HoldsAt l x u t

-- what goes on behind
entered_at : (o : Option (List MarkEntry)) (f : List MarkEntry → Option Leaves) (l : Leaves) (u : ℕ) (t : State) → Holds u t o → entered o f ≡ Some l
    → (n : List MarkEntry) × (o ≡ Some n) × HasState u t n × (f n ≡ Some l)
entered_at None f l u t h e = absurd h
entered_at (Some n) f l u t h e = (n, refl, h, e)

stable_at : (us : List ℕ) (o : Option (List MarkEntry)) (k : List MarkEntry) (u : ℕ) (t : State) → Over us o → variables k ≡ us → IsStable o k → Holds u t o → HasState u t k
stable_at us None k u t d e i h = absurd h
stable_at us (Some n) k u t d e i h =
    let q = other_mark k n u h.0 (d ∙ sym e) h.1 in (q.0, q.1, less_in h.0 q.0 t (says_less_at n k u h.0 q.0 (d ∙ sym e) i h.1 q.1) h.2)

over_some : (us : List ℕ) (o : Option (List MarkEntry)) (n : List MarkEntry) → Over us o → o ≡ Some n → variables n ≡ us
over_some us o n h e = subst (λ z. Over us z) e h

pub complete : (fields : Bool) (u : ℕ) {b : PathBody} {w : List LetterAt} {x : Way} → Words (Some u) b w x → (m : List MarkEntry) (l : Leaves) (s : State)
    → declares_anew (variables m) b ≡ true → marks fields b m ≡ Some l → HasState u s m → Lands l x u s w
complete fields u (by_leaving {x = x}) m l s d e h = (s, refl, subst (λ z. HoldsAt z x u s) (same_some (only x m) l e) (only_at x m u s h))
complete fields u (by_letter {v = v} {l = i} {s = p}) m l s d e h =
    let k = bind_some (after_spelling v i m) (λ n. Some (only Next n)) l e in
    let g = spelling_to v i p m k.0 u s k.1 h in
    (g.0, g.1, subst (λ z. HoldsAt z Next u g.0) (same_some (only Next k.0) l k.2) g.2)
complete fields u (by_both {a = a} {b = b} {u = w1} {w = w2} {x = x} i j) m l s d e h =
    let c = and_parts (declares_anew (variables m) a) (declares_anew (variables m) b) d in
    let k = bind_some (marks fields a m) (λ y. followed y (marks fields b)) l e in
    let q = bind_some (entered k.0.next (marks fields b)) (λ y. Some (together (cut_off k.0) y)) l k.2 in
    let over = shape fields a m k.0 k.1 in
    let r = complete fields u i m k.0 s c.0 k.1 h in
    let n = entered_at k.0.next (marks fields b) q.0 u r.0 r.2 q.1 in
    let same : variables n.0 ≡ variables m = over_some (variables m) k.0.next n.0 (over Next) n.1 in
    let t = complete fields u j n.0 q.0 r.0 (subst (λ z. declares_anew z b ≡ true) (sym same) c.1) n.3 n.2 in (
      t.0,
      run_then (Some s) (Some r.0) (Some t.0) w1 w2 r.1 t.1,
      subst (λ z. HoldsAt z x u t.0) (same_some (together (cut_off k.0) q.0) l q.2)
          (together_right (variables m) (cut_off k.0) q.0 x u t.0 (cut_over (variables m) k.0 over) (subst (λ z. OverAll z q.0) same (shape fields b n.0 q.0 n.3)) t.2),
    )
complete fields u (by_first_alone {a = a} {b = b} {x = x} g i) m l s d e h =
    let c = and_parts (declares_anew (variables m) a) (declares_anew (variables m) b) d in
    let k = bind_some (marks fields a m) (λ y. followed y (marks fields b)) l e in
    let q = bind_some (entered k.0.next (marks fields b)) (λ y. Some (together (cut_off k.0) y)) l k.2 in
    let over = shape fields a m k.0 k.1 in
    let r = complete fields u i m k.0 s c.0 k.1 h in (
      r.0,
      r.1,
      subst (λ z. HoldsAt z x u r.0) (same_some (together (cut_off k.0) q.0) l q.2)
          (together_left (variables m) (cut_off k.0) q.0 x u r.0 (cut_over (variables m) k.0 over)
          (entered_over (variables m) k.0.next (marks fields b) q.0 (over Next) q.1 (λ n o y. subst (λ z. OverAll z q.0) o (shape fields b n q.0 y)))
          (cut_at k.0 x u r.0 g r.2)),
    )
complete fields u (by_left {a = a} {b = b} {x = x} i) m l s d e h =
    let c = and_parts (declares_anew (variables m) a) (declares_anew (variables m) b) d in
    let k = bind_some (marks fields a m) (λ y. marks fields b m >=> (λ z. Some (together y z))) l e in
    let q = bind_some (marks fields b m) (λ z. Some (together k.0 z)) l k.2 in
    let r = complete fields u i m k.0 s c.0 k.1 h in (
      r.0,
      r.1,
      subst (λ z. HoldsAt z x u r.0) (same_some (together k.0 q.0) l q.2)
          (together_left (variables m) k.0 q.0 x u r.0 (shape fields a m k.0 k.1) (shape fields b m q.0 q.1) r.2),
    )
complete fields u (by_right {a = a} {b = b} {x = x} i) m l s d e h =
    let c = and_parts (declares_anew (variables m) a) (declares_anew (variables m) b) d in
    let k = bind_some (marks fields a m) (λ y. marks fields b m >=> (λ z. Some (together y z))) l e in
    let q = bind_some (marks fields b m) (λ z. Some (together k.0 z)) l k.2 in
    let r = complete fields u i m q.0 s c.1 q.1 h in (
      r.0,
      r.1,
      subst (λ z. HoldsAt z x u r.0) (same_some (together k.0 q.0) l q.2)
          (together_right (variables m) k.0 q.0 x u r.0 (shape fields a m k.0 k.1) (shape fields b m q.0 q.1) r.2),
    )
complete fields u (by_no_turn {a = a}) m l s d e h =
    let k = turns_stand 4 (marks fields a) m l e in
    (s, refl, subst (λ z. HoldsAt z Next u s) (sym k.5) (grows_hold (variables m) (marks fields a) (λ n x c i. subst (λ z. OverAll z x) c (shape fields a n x i)) k.2 refl u s h))
complete fields u (by_turn {a = a} {u = w1} {w = w2} {y = y} i j) m l s d e h =
    let k = turns_stand 4 (marks fields a) m l e in
    let keeps = λ (n : List MarkEntry) (x : Leaves) (c : variables n ≡ variables m) (o : marks fields a n ≡ Some x). subst (λ z. OverAll z x) c (shape fields a n x o) in
    let same : variables k.0 ≡ variables m = grows_keep (variables m) (marks fields a) keeps k.2 refl in
    let decl : declares_anew (variables k.0) a ≡ true = subst (λ z. declares_anew z a ≡ true) (sym same) d in
    let r = complete fields u i k.0 k.1 s decl k.3 (grows_hold (variables m) (marks fields a) keeps k.2 refl u s h) in
    let back = stable_at (variables k.0) k.1.next k.0 u r.0 (shape fields a k.0 k.1 k.3 Next) refl k.4 r.2 in
    let t = complete fields u j k.0 l r.0 decl (turns_again 3 (marks fields a) k.0 k.1 k.3 k.4 ∙ ap Some (sym k.5)) back in
    (t.0, run_then (Some s) (Some r.0) (Some t.0) w1 w2 r.1 t.1, t.2)
complete fields u (by_last_turn {a = a} {x = x} g i) m l s d e h =
    let k = turns_stand 4 (marks fields a) m l e in
    let keeps = λ (n : List MarkEntry) (y : Leaves) (c : variables n ≡ variables m) (o : marks fields a n ≡ Some y). subst (λ z. OverAll z y) c (shape fields a n y o) in
    let same : variables k.0 ≡ variables m = grows_keep (variables m) (marks fields a) keeps k.2 refl in
    let decl : declares_anew (variables k.0) a ≡ true = subst (λ z. declares_anew z a ≡ true) (sym same) d in
    let r = complete fields u i k.0 k.1 s decl k.3 (grows_hold (variables m) (marks fields a) keeps k.2 refl u s h) in
    (r.0, r.1, subst (λ z. HoldsAt z x u r.0) (sym k.5) (turned_at k.0 k.1 x u r.0 g r.2))
complete fields u (by_catching {c = c} {a = a} {x = x} i) m l s d e h =
    let k = bind_some (marks fields a m) (λ y. Some (catching c y)) l e in
    let r = complete fields u i m k.0 s d k.1 h in
    (r.0, r.1, subst (λ z. HoldsAt z (caught c x) u r.0) (same_some (catching c k.0) l k.2) (catching_at (variables m) c k.0 x u r.0 (shape fields a m k.0 k.1) r.2))
complete fields u (by_scope {v = v} {b = b} {x = x} i) m l s d e h =
    let c = and_parts (not (among (variables m) v.number)) (declares_anew (v.number ∷ variables m) b) d in
    let k = bind_some (marks fields b (begun fields v m)) (scope_left fields) l e in
    let apart = is_other (variables m) v.number u c.0 (is_among m u h.0 h.1) in
    let inner : HasState u s (begun fields v m) = (h.0, behind (record { variable = v.number; mark = begin_mark fields }) m u apart ∙ h.1, h.2) in
    let r = complete fields u i (begun fields v m) k.0 s c.1 k.1 inner in
    (r.0, r.1, scope_at fields v.number (variables m) k.0 l x u r.0 k.2 (shape fields b (begun fields v m) k.0 k.1) apart r.2)
