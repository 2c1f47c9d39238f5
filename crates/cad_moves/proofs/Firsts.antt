-- The first error is the first of all on all paths.
use Rattle.std.proofs.Common.{◌≡◌, ◌≤◌, ◌<◌, refl, sym, ◌∙◌, ap, subst, ◌⊎◌, inl, inr, ℕ, Bool, true, false, ◌||◌, arith, List, [], ◌∷◌, ◌++◌, if◌then◌else◌, nat_lt, ltb-true, ltb-false}
use Rattle.std.specs.Prelude.{Option, Some, None}
use Rattle.cad_paths.specs.declared.letter.Way.{Way}
use Rattle.cad_paths.specs.declared.letter.Way.TheVariants.{Next, Broken, Continued, Returned, Never}
use Rattle.cad_paths.specs.declared.letter.Position.{Position}
use Rattle.cad_paths.specs.declared.letter.MoveKind.{MoveKind}
use Rattle.cad_paths.specs.declared.letter.MoveKind.TheVariants.{UsedAfterMove, Lost}
use Rattle.cad_paths.specs.Paths.{PathVariable, PathBody, leave, spell, seq, either, loop, catch, scope, LetterAt, Words, by_leaving, by_letter, by_both, by_first_alone, by_left, by_right, by_no_turn, by_turn, by_last_turn, by_catching, by_scope, Life, in_scope, in_inner, in_first, in_second, in_left, in_right, in_turn, in_catch}
use Rattle.cad_paths.specs.Linear.{closes, NotAfter, kind_order, Offence, NoLater}
use Rattle.cad_moves.specs.declared.state.Rules.{Rules}
use Rattle.cad_moves.specs.declared.state.State.{State}
use Rattle.cad_moves.specs.declared.state.State.TheVariants.{Live, Vacant, Refilled, Gone}
use Rattle.cad_moves.specs.declared.table.States.{States}
use Rattle.cad_moves.specs.declared.table.Effect.{Effect}
use Rattle.cad_moves.specs.Code.Machine.{Outcome, fine, off, Runs, at_end, is_off, goes, is_held, Errs, goes_wrong, ends_held, Verdict, is_before, is_same}
use Rattle.cad_moves.specs.Code.Tables.{at_state, at_way, at, sweep, leaves, offends, Below, Has}
use Rattle.cad_moves.specs.Code.Firsts.{kind_after, is_after, sooner, holds, leaks, wrong_error, lost_error, judged, comes, nearer, first_of, Exact}
use Rattle.cad_moves.proofs.Positions.{not_after_same, not_after_trans, not_after_both, before_says, before_denies, same_says, same_denies}
use Rattle.cad_moves.proofs.Sweeps.{sound}
use Rattle.cad_moves.proofs.Complete.{complete}

-- ---- the order

kind_says : (k j : MoveKind) (b : Bool) → kind_after k j b ≡ true → (kind_order j < kind_order k) ⊎ ((k ≡ j) × (b ≡ true))
kind_says UsedAfterMove UsedAfterMove b e = inr (refl, e)
kind_says UsedAfterMove Lost b e = cc
kind_says Lost UsedAfterMove b e = inl (omega arith)
kind_says Lost Lost b e = inr (refl, e)

kind_denies : (k j : MoveKind) (b : Bool) → kind_after k j b ≡ false → (kind_order k < kind_order j) ⊎ ((k ≡ j) × (b ≡ false))
kind_denies UsedAfterMove UsedAfterMove b e = inr (refl, e)
kind_denies UsedAfterMove Lost b e = inl (omega arith)
kind_denies Lost UsedAfterMove b e = cc
kind_denies Lost Lost b e = inr (refl, e)

kind_same : (k j : MoveKind) → k ≡ j → kind_order k ≡ kind_order j
kind_same k j e = ap kind_order e

-- at one position
no_later : (o p : Offence) → o.at ≡ p.at → (kind_order o.kind < kind_order p.kind) ⊎ ((o.kind ≡ p.kind) × (o.variable.number ≤ p.variable.number)) → NoLater o p
no_later o p e (inl l) = record {
  by_position = subst (λ z. NotAfter o.at z) e (not_after_same o.at);
  by_kind = λ d. omega arith;
  by_variable = λ d k. absurd (let s = kind_same o.kind p.kind k in omega arith);
}
no_later o p e (inr (k, l)) = record {
  by_position = subst (λ z. NotAfter o.at z) e (not_after_same o.at);
  by_kind = λ d. (let s = kind_same o.kind p.kind k in omega arith);
  by_variable = λ d j. l;
}

-- at two
earlier_place : (o p : Offence) → NotAfter o.at p.at → (o.at ≡ p.at → ⊥) → NoLater o p
earlier_place o p h n = record { by_position = h; by_kind = λ d. absurd (n d); by_variable = λ d k. absurd (n d) }

turned : (a b : ℕ) (k j : MoveKind) → (kind_order j < kind_order k) ⊎ ((k ≡ j) × (nat_lt a b ≡ true)) → (kind_order j < kind_order k) ⊎ ((j ≡ k) × (a ≤ b))
turned a b k j (inl l) = inl l
turned a b k j (inr (e, l)) = let m = ltb-true a b l in inr (sym e, omega arith)

kept_order : (a b : ℕ) (k j : MoveKind) → (kind_order k < kind_order j) ⊎ ((k ≡ j) × (nat_lt a b ≡ false)) → (kind_order k < kind_order j) ⊎ ((k ≡ j) × (b ≤ a))
kept_order a b k j (inl l) = inl l
kept_order a b k j (inr (e, l)) = let m = ltb-false a b l in inr (e, omega arith)

after_by : (o p : Offence) (b : Bool) → is_same o.at p.at ≡ b → (if b then kind_after o.kind p.kind (nat_lt p.variable.number o.variable.number) else is_before p.at o.at) ≡ true → NoLater p o
after_by o p true e h = no_later p o (sym (same_says o.at p.at e)) (turned p.variable.number o.variable.number o.kind p.kind (kind_says o.kind p.kind (nat_lt p.variable.number o.variable.number) h))
after_by o p false e h = earlier_place p o (before_says p.at o.at h) (λ d. same_denies o.at p.at e (sym d))

not_after_by : (o p : Offence) (b : Bool) → is_same o.at p.at ≡ b → (if b then kind_after o.kind p.kind (nat_lt p.variable.number o.variable.number) else is_before p.at o.at) ≡ false → NoLater o p
not_after_by o p true e h = no_later o p (same_says o.at p.at e) (kept_order p.variable.number o.variable.number o.kind p.kind (kind_denies o.kind p.kind (nat_lt p.variable.number o.variable.number) h))
not_after_by o p false e h = earlier_place o p (before_denies p.at o.at h) (same_denies o.at p.at e)

pub no_later_same : (o : Offence) → NoLater o o
no_later_same o = record { by_position = not_after_same o.at; by_kind = λ d. omega arith; by_variable = λ d k. omega arith }

-- both stand at one position where the outer two do
between : (a b c : Position) → NotAfter a b → NotAfter b c → a ≡ c → (a ≡ b) × (b ≡ c)
between a b c h k e = let d : a ≡ b = not_after_both a b h (subst (λ z. NotAfter b z) (sym e) k) in (d, sym d ∙ e)

kinds_between : (a b c : MoveKind) → kind_order a ≤ kind_order b → kind_order b ≤ kind_order c → a ≡ c → (a ≡ b) × (b ≡ c)
kinds_between UsedAfterMove UsedAfterMove c h k e = (refl, e)
kinds_between UsedAfterMove Lost UsedAfterMove h k e = absurd (omega arith)
kinds_between UsedAfterMove Lost Lost h k e = cc
kinds_between Lost UsedAfterMove c h k e = absurd (omega arith)
kinds_between Lost Lost c h k e = (refl, e)

no_later_trans : (o p r : Offence) → NoLater o p → NoLater p r → NoLater o r
no_later_trans o p r h k = record {
  by_position = not_after_trans o.at p.at r.at h.by_position k.by_position;
  by_kind = λ d. (let z = between o.at p.at r.at h.by_position k.by_position d in let x = h.by_kind z.0 in let y = k.by_kind z.1 in omega arith);
  by_variable = λ d e. (let z = between o.at p.at r.at h.by_position k.by_position d in
      let s = kinds_between o.kind p.kind r.kind (h.by_kind z.0) (k.by_kind z.1) e in
      let x = h.by_variable z.0 s.0 in let y = k.by_variable z.1 s.1 in omega arith);
}

-- ---- the sooner of two

abbrev pub Under : Option Offence → Offence → Type 0
Under None p = ⊥
Under (Some o) p = NoLater o p

left_by : (o p r : Offence) (b : Bool) → is_after o p ≡ b → NoLater o r → Under (if b then Some p else Some o) r
left_by o p r true e h = no_later_trans p o r (after_by o p (is_same o.at p.at) refl e) h
left_by o p r false e h = h

right_by : (o p r : Offence) (b : Bool) → is_after o p ≡ b → NoLater p r → Under (if b then Some p else Some o) r
right_by o p r true e h = h
right_by o p r false e h = no_later_trans o p r (not_after_by o p (is_same o.at p.at) refl e) h

sooner_left : (o p : Option Offence) (r : Offence) → Under o r → Under (sooner o p) r
sooner_left None p r h = absurd h
sooner_left (Some o) None r h = h
sooner_left (Some o) (Some p) r h = left_by o p r (is_after o p) refl h

sooner_right : (o p : Option Offence) (r : Offence) → Under p r → Under (sooner o p) r
sooner_right None p r h = h
sooner_right (Some o) None r h = absurd h
sooner_right (Some o) (Some p) r h = right_by o p r (is_after o p) refl h

one_by : (o p r : Offence) (b : Bool) → (if b then Some p else Some o) ≡ Some r → (Some o ≡ Some r) ⊎ (Some p ≡ Some r)
one_by o p r true e = inr e
one_by o p r false e = inl e

sooner_one : (o p : Option Offence) (r : Offence) → sooner o p ≡ Some r → (o ≡ Some r) ⊎ (p ≡ Some r)
sooner_one None p r e = inr e
sooner_one (Some o) None r e = inl e
sooner_one (Some o) (Some p) r e = one_by o p r (is_after o p) e

-- ---- one life

or_split : (a b : Bool) → (a || b) ≡ true → (a ≡ true) ⊎ (b ≡ true)
or_split true b e = inl refl
or_split false b e = inr e

or_left : (a b : Bool) → a ≡ true → (a || b) ≡ true
or_left true b e = refl
or_left false b e = cc

or_right : (a b : Bool) → b ≡ true → (a || b) ≡ true
or_right true b e = refl
or_right false b e = e

holds_has : (a : States) (q : State) → is_held q ≡ true → at_state a q ≡ true → holds a ≡ true
unfolding holds
holds_has a Live h e = or_left a.live a.refilled e
holds_has a Refilled h e = or_right a.live a.refilled e
holds_has a Vacant h e = cc
holds_has a Gone h e = cc

holds_split : (a : States) → holds a ≡ true → (q : State) × (is_held q ≡ true) × (at_state a q ≡ true)
unfolding holds
holds_split a h = go (or_split a.live a.refilled h)
  where
    go : (a.live ≡ true) ⊎ (a.refilled ≡ true) → (q : State) × (is_held q ≡ true) × (at_state a q ≡ true)
    go (inl e) = (Live, refl, e)
    go (inr e) = (Refilled, refl, e)

leaks_has : (e : Effect) (x : Way) → closes x ≡ true → holds (at_way e x) ≡ true → leaks e ≡ true
unfolding leaks
leaks_has e Next c h = or_left (holds e.next || holds e.broken) (holds e.continued || holds e.returned) (or_left (holds e.next) (holds e.broken) h)
leaks_has e Broken c h = or_left (holds e.next || holds e.broken) (holds e.continued || holds e.returned) (or_right (holds e.next) (holds e.broken) h)
leaks_has e Continued c h = or_right (holds e.next || holds e.broken) (holds e.continued || holds e.returned) (or_left (holds e.continued) (holds e.returned) h)
leaks_has e Returned c h = or_right (holds e.next || holds e.broken) (holds e.continued || holds e.returned) (or_right (holds e.continued) (holds e.returned) h)
leaks_has e Never c h = cc

leaks_split : (e : Effect) → leaks e ≡ true → (x : Way) × (closes x ≡ true) × (holds (at_way e x) ≡ true)
unfolding leaks
leaks_split e h = go (or_split (holds e.next || holds e.broken) (holds e.continued || holds e.returned) h)
  where
    spell : (holds e.next ≡ true) ⊎ (holds e.broken ≡ true) → (x : Way) × (closes x ≡ true) × (holds (at_way e x) ≡ true)
    spell (inl i) = (Next, refl, i)
    spell (inr i) = (Broken, refl, i)

    two : (holds e.continued ≡ true) ⊎ (holds e.returned ≡ true) → (x : Way) × (closes x ≡ true) × (holds (at_way e x) ≡ true)
    two (inl i) = (Continued, refl, i)
    two (inr i) = (Returned, refl, i)

    go : ((holds e.next || holds e.broken) ≡ true) ⊎ ((holds e.continued || holds e.returned) ≡ true) → (x : Way) × (closes x ≡ true) × (holds (at_way e x) ≡ true)
    go (inl i) = spell (or_split (holds e.next) (holds e.broken) i)
    go (inr i) = two (or_split (holds e.continued) (holds e.returned) i)

module _ (m : Rules) where
  abbrev used : PathVariable → Position → Offence
  used v t = record { at = t; kind = UsedAfterMove; variable = v }

  abbrev left_over : PathVariable → Position → Offence
  left_over v s = record { at = s; kind = Lost; variable = v }

  -- the scope's own judgement
  abbrev own : PathVariable → Position → PathBody → Option Offence
  own v s b = judged v s (sweep m (Some v.number) b).live

  -- an error of a life
  abbrev Bad : PathVariable → Position → List LetterAt → Way → Offence → Type 0
  Bad v s w x p = ((t : Position) × Runs m Live w (off t) × (used v t ≡ p)) ⊎ ((q : State) × Runs m Live w (fine q) × (closes x ≡ true) × (is_held q ≡ true) × (left_over v s ≡ p))

  wrong_under : (v : PathVariable) (t : Position) (o : Option Position) → Below o t → Under (wrong_error v o) (used v t)
  wrong_under v t None h = absurd h
  wrong_under v t (Some n) h = record { by_position = h; by_kind = λ d. omega arith; by_variable = λ d k. omega arith }

  lost_under : (v : PathVariable) (s : Position) (b : Bool) → b ≡ true → Under (lost_error v s b) (left_over v s)
  lost_under v s true e = no_later_same (left_over v s)
  lost_under v s false e = cc

  here : (v : PathVariable) (s : Position) (b : PathBody) (w : List LetterAt) (x : Way) (p : Offence) → Words (Some v.number) b w x → Bad v s w x p → Under (own v s b) p
  unfolding judged
  here v s b w x p h (inl (t, e, d)) = subst (λ r. Under (own v s b) r) d
      (sooner_left (wrong_error v (sweep m (Some v.number) b).live.wrong) (lost_error v s (leaks (sweep m (Some v.number) b).live)) (used v t)
      (wrong_under v t (sweep m (Some v.number) b).live.wrong (complete m h Live (off t) e)))
  here v s b w x p h (inr (q, e, c, k, d)) = subst (λ r. Under (own v s b) r) d
      (sooner_right (wrong_error v (sweep m (Some v.number) b).live.wrong) (lost_error v s (leaks (sweep m (Some v.number) b).live)) (left_over v s)
      (lost_under v s (leaks (sweep m (Some v.number) b).live) (leaks_has (sweep m (Some v.number) b).live x c (holds_has (at_way (sweep m (Some v.number) b).live x) q k (complete m h Live (fine q) e)))))

  -- where no letters are spelled
  nil_append : (u w : List LetterAt) → u ≡ [] → w ≡ [] → u ++ w ≡ []
  nil_append u w d e = subst (λ z. z ++ w ≡ []) (sym d) e

  silent : (who : Option ℕ) {b : PathBody} {w : List LetterAt} {x : Way} → Words who b w x → who ≡ None → w ≡ []
  silent who by_leaving e = refl
  silent None (by_letter {v = v}) e = refl
  silent (Some u) (by_letter {v = v}) e = cc
  silent who (by_both {u = u} {w = w} h k) e = nil_append u w (silent who h e) (silent who k e)
  silent who (by_first_alone c h) e = silent who h e
  silent who (by_left h) e = silent who h e
  silent who (by_right h) e = silent who h e
  silent who by_no_turn e = refl
  silent who (by_turn {u = u} {w = w} h k) e = nil_append u w (silent who h e) (silent who k e)
  silent who (by_last_turn c h) e = silent who h e
  silent who (by_catching h) e = silent who h e
  silent who (by_scope h) e = silent who h e

  comes_has : (a : PathBody) (u : List LetterAt) → Words None a u Next → comes (sweep m None a) ≡ true
  comes_has a u h = complete m h Live (fine Live) (subst (λ z. Runs m Live z (fine Live)) (sym (silent None h refl)) at_end)

  comes_word : (a : PathBody) → comes (sweep m None a) ≡ true → (u : List LetterAt) × Words None a u Next
  comes_word a e = let p = sound m None a Live (leaves Next Live) e in (p.0, p.1)

  nearer_left : (o : Option Offence) (b : Bool) (p : Option Offence) (r : Offence) → Under o r → Under (nearer o b p) r
  nearer_left o true p r h = sooner_left o p r h
  nearer_left o false p r h = h

  nearer_right : (o : Option Offence) (b : Bool) (p : Option Offence) (r : Offence) → b ≡ true → Under p r → Under (nearer o b p) r
  nearer_right o true p r e h = sooner_right o p r h
  nearer_right o false p r e h = cc

  found : {b : PathBody} {v : PathVariable} {s : Position} {w : List LetterAt} {x : Way} → Life b v s w x → (p : Offence) → Bad v s w x p → Under (first_of m b) p
  found (in_scope {v = v} {s = s} {b = b} {w = w} {x = x} h) p k = sooner_left (own v s b) (first_of m b) p (here v s b w x p h k)
  found (in_inner {u = u} {t = t} {b = b} h) p k = sooner_right (own u t b) (first_of m b) p (found h p k)
  found (in_first {a = a} {b = b} h) p k = nearer_left (first_of m a) (comes (sweep m None a)) (first_of m b) p (found h p k)
  found (in_second {a = a} {b = b} {u = u} i h) p k = nearer_right (first_of m a) (comes (sweep m None a)) (first_of m b) p (comes_has a u i) (found h p k)
  found (in_left {a = a} {b = b} h) p k = sooner_left (first_of m a) (first_of m b) p (found h p k)
  found (in_right {a = a} {b = b} h) p k = sooner_right (first_of m a) (first_of m b) p (found h p k)
  found (in_turn h) p k = found h p k
  found (in_catch h) p k = found h p k

  pub all_found : {b : PathBody} {p : Offence} → Errs m b p → Under (first_of m b) p
  all_found (goes_wrong {v = v} {t = t} l e) = found l (used v t) (inl (t, e, refl))
  all_found (ends_held {v = v} {s = s} {q = q} l e c h) = found l (left_over v s) (inr (q, e, c, h, refl))

  -- ---- what is named is wrong

  wrong_real : (v : PathVariable) (s : Position) (b : PathBody) (o : Option Position) (p : Offence) → (sweep m (Some v.number) b).live.wrong ≡ o → wrong_error v o ≡ Some p → Errs m (scope v s b) p
  wrong_real v s b None p d e = cc
  wrong_real v s b (Some t) p d e =
      let n : Has (at (sweep m (Some v.number) b) Live) (offends t) = subst (λ o. Below o t) (sym d) (not_after_same t) in
      let r = sound m (Some v.number) b Live (offends t) n in
      let k : NotAfter t r.2 = subst (λ o. Below o r.2) d (complete m r.3 Live (off r.2) r.4) in
      let same : r.2 ≡ t = not_after_both r.2 t r.5 k in
      let q : used v t ≡ p = cc in
      subst (Errs m (scope v s b)) (ap (used v) same ∙ q) (goes_wrong (in_scope r.3) r.4)

  lost_real : (v : PathVariable) (s : Position) (b : PathBody) (l : Bool) (p : Offence) → leaks (sweep m (Some v.number) b).live ≡ l → lost_error v s l ≡ Some p → Errs m (scope v s b) p
  lost_real v s b false p d e = cc
  lost_real v s b true p d e =
      let i = leaks_split (sweep m (Some v.number) b).live d in
      let j = holds_split (at_way (sweep m (Some v.number) b).live i.0) i.2 in
      let r = sound m (Some v.number) b Live (leaves i.0 j.0) j.2 in
      let q : left_over v s ≡ p = cc in
      subst (Errs m (scope v s b)) q (ends_held (in_scope r.1) r.2 i.1 j.1)

  judged_real : (v : PathVariable) (s : Position) (b : PathBody) (p : Offence) → own v s b ≡ Some p → Errs m (scope v s b) p
  unfolding judged
  judged_real v s b p e = go (sooner_one (wrong_error v (sweep m (Some v.number) b).live.wrong) (lost_error v s (leaks (sweep m (Some v.number) b).live)) p e)
    where
      go : (wrong_error v (sweep m (Some v.number) b).live.wrong ≡ Some p) ⊎ (lost_error v s (leaks (sweep m (Some v.number) b).live) ≡ Some p) → Errs m (scope v s b) p
      go (inl i) = wrong_real v s b (sweep m (Some v.number) b).live.wrong p refl i
      go (inr i) = lost_real v s b (leaks (sweep m (Some v.number) b).live) p refl i

  err_inner : {v : PathVariable} {s : Position} {b : PathBody} {p : Offence} → Errs m b p → Errs m (scope v s b) p
  err_inner (goes_wrong l e) = goes_wrong (in_inner l) e
  err_inner (ends_held l e c h) = ends_held (in_inner l) e c h

  err_first : {a b : PathBody} {p : Offence} → Errs m a p → Errs m (seq a b) p
  err_first (goes_wrong l e) = goes_wrong (in_first l) e
  err_first (ends_held l e c h) = ends_held (in_first l) e c h

  err_second : {a b : PathBody} {p : Offence} {u : List LetterAt} → Words None a u Next → Errs m b p → Errs m (seq a b) p
  err_second i (goes_wrong l e) = goes_wrong (in_second i l) e
  err_second i (ends_held l e c h) = ends_held (in_second i l) e c h

  err_left : {a b : PathBody} {p : Offence} → Errs m a p → Errs m (either a b) p
  err_left (goes_wrong l e) = goes_wrong (in_left l) e
  err_left (ends_held l e c h) = ends_held (in_left l) e c h

  err_right : {a b : PathBody} {p : Offence} → Errs m b p → Errs m (either a b) p
  err_right (goes_wrong l e) = goes_wrong (in_right l) e
  err_right (ends_held l e c h) = ends_held (in_right l) e c h

  err_turn : {a : PathBody} {p : Offence} → Errs m a p → Errs m (loop a) p
  err_turn (goes_wrong l e) = goes_wrong (in_turn l) e
  err_turn (ends_held l e c h) = ends_held (in_turn l) e c h

  err_catch : {c : Way} {a : PathBody} {p : Offence} → Errs m a p → Errs m (catch c a) p
  err_catch (goes_wrong l e) = goes_wrong (in_catch l) e
  err_catch (ends_held l e c h) = ends_held (in_catch l) e c h

  seq_by : (a b : PathBody) (p : Offence) → (first_of m a ≡ Some p → Errs m a p) → (first_of m b ≡ Some p → Errs m b p) → comes (sweep m None a) ≡ true
      → (first_of m a ≡ Some p) ⊎ (first_of m b ≡ Some p) → Errs m (seq a b) p
  seq_by a b p f g c (inl i) = err_first (f i)
  seq_by a b p f g c (inr i) = let w = comes_word a c in err_second w.1 (g i)

  seq_real : (a b : PathBody) (p : Offence) (c : Bool) → (first_of m a ≡ Some p → Errs m a p) → (first_of m b ≡ Some p → Errs m b p)
      → comes (sweep m None a) ≡ c → nearer (first_of m a) c (first_of m b) ≡ Some p → Errs m (seq a b) p
  seq_real a b p true f g d e = seq_by a b p f g d (sooner_one (first_of m a) (first_of m b) p e)
  seq_real a b p false f g d e = err_first (f e)

  either_real : (a b : PathBody) (p : Offence) → (first_of m a ≡ Some p → Errs m a p) → (first_of m b ≡ Some p → Errs m b p)
      → (first_of m a ≡ Some p) ⊎ (first_of m b ≡ Some p) → Errs m (either a b) p
  either_real a b p f g (inl i) = err_left (f i)
  either_real a b p f g (inr i) = err_right (g i)

  scope_real : (v : PathVariable) (s : Position) (b : PathBody) (p : Offence) → (first_of m b ≡ Some p → Errs m b p)
      → (own v s b ≡ Some p) ⊎ (first_of m b ≡ Some p) → Errs m (scope v s b) p
  scope_real v s b p f (inl i) = judged_real v s b p i
  scope_real v s b p f (inr i) = err_inner (f i)

  pub real : (b : PathBody) (p : Offence) → first_of m b ≡ Some p → Errs m b p
  real (leave x) p e = cc
  real (spell v l s) p e = cc
  real (seq a b) p e = seq_real a b p (comes (sweep m None a)) (real a p) (real b p) refl e
  real (either a b) p e = either_real a b p (real a p) (real b p) (sooner_one (first_of m a) (first_of m b) p e)
  real (loop a) p e = err_turn (real a p e)
  real (catch c a) p e = err_catch (real a p e)
  real (scope v s b) p e = scope_real v s b p (real b p) (sooner_one (own v s b) (first_of m b) p e)

  exact_by : (b : PathBody) (o : Option Offence) → first_of m b ≡ o → Verdict m b o
  exact_by b None e = λ p h. subst (λ o. Under o p) e (all_found h)
  exact_by b (Some o) e = record { errs = real b o e; is_first = λ p h. subst (λ o. Under o p) e (all_found h) }

pub exact : Exact
exact m b = exact_by m b (first_of m b) refl
