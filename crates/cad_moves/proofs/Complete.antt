-- A sweep gathers all that words come to.
use Rattle.std.proofs.Common.{◌≡◌, ◌≤◌, refl, sym, ◌∙◌, ap, subst, ◌⊎◌, inl, inr, ℕ, Bool, true, false, arith, List, [], ◌∷◌, ◌++◌, if◌then◌else◌}
use Rattle.std.specs.Prelude.{Option, Some, None}
use Rattle.cad_paths.specs.declared.letter.Letter.{Letter}
use Rattle.cad_paths.specs.declared.letter.Letter.TheVariants.{Use, Fill, Spend, Empty, Need, Fresh, Set}
use Rattle.cad_paths.specs.declared.letter.Way.{Way}
use Rattle.cad_paths.specs.declared.letter.Way.TheVariants.{Next, Broken, Continued, Returned, Never}
use Rattle.cad_paths.specs.declared.letter.Position.{Position}
use Rattle.cad_paths.specs.Paths.{PathBody, LetterAt, letter_at, is_spelled, spelled, goes_on, caught, Words, by_leaving, by_letter, by_both, by_first_alone, by_left, by_right, by_no_turn, by_turn, by_last_turn, by_catching, by_scope}
use Rattle.cad_moves.specs.declared.state.Rules.{Rules}
use Rattle.cad_moves.specs.declared.state.Rules.TheVariants.{Moves, Fields}
use Rattle.cad_moves.specs.declared.state.State.{State}
use Rattle.cad_moves.specs.declared.state.State.TheVariants.{Live, Vacant, Refilled, Gone}
use Rattle.cad_moves.specs.declared.table.Effect.{Effect}
use Rattle.cad_moves.specs.declared.table.Table.{Table}
use Rattle.cad_moves.specs.Code.Machine.{Outcome, fine, off, Runs, at_end, is_off, goes, moved, field_moved, steps, is_wrong}
use Rattle.cad_moves.specs.Code.Tables.{at_state, just, only, merge, pick, catching, finished, again, at, spelling, marked, leaving, letter, in_turn, loop_gone, loop_refilled, loop_vacant, loop_live, looped, catch_all, sweep, Token, leaves, offends, Has}
use Rattle.cad_moves.proofs.Has.{unite_left, unite_right, just_at, merge_left, merge_right, only_at, spelling_state, spelling_wrong, pick_has, Cuts, followed_cut, followed_on}
use Rattle.cad_moves.proofs.Sweeps.{leaving_at, letter_table_at, in_turn_at, choice_at}

abbrev pub token : Way → Outcome → Token
token x (fine r) = leaves x r
token x (off t) = offends t

-- ---- no letter leads back

abbrev height : State → ℕ
height Live = 0
height Vacant = 1
height Refilled = 2
height Gone = 3

Above : ℕ → Option State → Type 0
Above n None = Unit {0}
Above n (Some r) = n ≤ height r

moved_above : (q : State) (l : Letter) → Above (height q) (moved q l)
unfolding Above
moved_above Live Use = omega arith
moved_above Live Fill = omega arith
moved_above Live Spend = omega arith
moved_above Live Empty = omega arith
moved_above Live Need = tt
moved_above Live Fresh = tt
moved_above Live Set = tt
moved_above Vacant Use = omega arith
moved_above Vacant Fill = omega arith
moved_above Vacant Spend = omega arith
moved_above Vacant Empty = tt
moved_above Vacant Need = tt
moved_above Vacant Fresh = tt
moved_above Vacant Set = tt
moved_above Refilled Use = omega arith
moved_above Refilled Fill = omega arith
moved_above Refilled Spend = omega arith
moved_above Refilled Empty = tt
moved_above Refilled Need = tt
moved_above Refilled Fresh = tt
moved_above Refilled Set = tt
moved_above Gone l = tt

same_above : (q : State) → Above (height q) (Some q)
unfolding Above
same_above q = omega arith

set_above : (q : State) → Above (height q) (Some (field_moved q Set))
unfolding Above
set_above Live = omega arith
set_above Vacant = omega arith
set_above Refilled = omega arith
set_above Gone = omega arith

field_above : (q : State) (l : Letter) → Above (height q) (Some (field_moved q l))
field_above q Set = set_above q
field_above q Use = same_above q
field_above q Fill = same_above q
field_above q Spend = same_above q
field_above q Empty = same_above q
field_above q Need = same_above q
field_above q Fresh = same_above q

steps_above : (m : Rules) (q : State) (l : Letter) → Above (height q) (steps m q l)
steps_above Moves q l = moved_above q l
steps_above Fields q l = field_above q l

step_above : (n : ℕ) (o : Option State) (k : State) → Above n o → o ≡ Some k → n ≤ height k
unfolding Above
step_above n None k h e = cc
step_above n (Some r) k h e = let p : r ≡ k = cc in subst (λ z. n ≤ height z) p h

above : {m : Rules} {q : State} {w : List LetterAt} {o : Outcome} → Runs m q w o → (r : State) → o ≡ fine r → height q ≤ height r
above (at_end {q = q}) r e = let p : q ≡ r = cc in subst (λ z. height q ≤ height z) p (let z : height q ≤ height q = omega arith in z)
above (is_off h) r e = cc
above {m = m} (goes {q = q} {k = k} {l = l} h i) r e = let a = step_above (height q) (steps m q l) k (steps_above m q l) h in let b = above i r e in omega arith

-- ---- what a run over two words does

Parts : Rules → State → List LetterAt → List LetterAt → Outcome → Type 0
Parts m q u w o = ((t : Position) × (o ≡ off t) × Runs m q u (off t)) ⊎ ((r : State) × Runs m q u (fine r) × Runs m r w o)

first_goes : (m : Rules) (q k : State) (l : Letter) (s : Position) (u w : List LetterAt) (o : Outcome) → steps m q l ≡ Some k → Parts m k u w o → Parts m q (letter_at l s ∷ u) w o
unfolding Parts
first_goes m q k l s u w o e (inl (t, d, h)) = inl (t, d, goes e h)
first_goes m q k l s u w o e (inr (r, h, i)) = inr (r, goes e h, i)

begun : {m : Rules} {q : State} {v : List LetterAt} {o : Outcome} → Runs m q v o → (x : LetterAt) (u w : List LetterAt) → v ≡ x ∷ (u ++ w)
    → ((k : State) → Runs m k (u ++ w) o → Parts m k u w o) → Parts m q (x ∷ u) w o
unfolding Parts
begun at_end x u w e f = cc
begun {m = m} {q = q} (is_off {l = l} {s = s} h) x u w e f = let p : letter_at l s ≡ x = cc in inl (s, refl, subst (λ z. Runs m q (z ∷ u) (off s)) p (is_off h))
begun {m = m} {q = q} (goes {k = k} {l = l} {s = s} {w = v} {o = o} h i) x u w e f =
    let p : letter_at l s ≡ x = cc in let d : v ≡ u ++ w = cc in
    subst (λ z. Parts m q (z ∷ u) w o) p (first_goes m q k l s u w o h (f k (subst (λ z. Runs m k z o) d i)))

parts : (m : Rules) (u : List LetterAt) (q : State) (w : List LetterAt) (o : Outcome) → Runs m q (u ++ w) o → Parts m q u w o
unfolding Parts
parts m [] q w o h = inr (q, at_end, h)
parts m (x ∷ u) q w o h = begun h x u w refl (λ k i. parts m u k w o i)

-- ---- loop

finished_now : (q : State) (e : Effect) → Has (finished q e) (leaves Next q)
unfolding finished
finished_now q e = just_at q

finished_out : (q r : State) (e : Effect) (x : Way) → goes_on x ≡ false → Has e (leaves x r) → Has (finished q e) (leaves x r)
unfolding finished
finished_out q r e Next c h = cc
finished_out q r e Continued c h = h
finished_out q r e Broken c h = h
finished_out q r e Returned c h = h
finished_out q r e Never c h = h

finished_off : (q : State) (e : Effect) (n : Position) → Has e (offends n) → Has (finished q e) (offends n)
unfolding finished
finished_off q e n h = h

loop_finished : (t : Table) (q : State) (k : Token) → Has (finished q (at t q)) k → Has (at (looped t) q) k
unfolding looped loop_live loop_vacant loop_refilled loop_gone
loop_finished t Live k h = merge_left (finished Live t.live) (merge (pick (again t.live).vacant (loop_vacant t)) (merge (pick (again t.live).refilled (loop_refilled t)) (pick (again t.live).gone (loop_gone t)))) k h
loop_finished t Vacant k h = merge_left (finished Vacant t.vacant) (merge (pick (again t.vacant).refilled (loop_refilled t)) (pick (again t.vacant).gone (loop_gone t))) k h
loop_finished t Refilled k h = merge_left (finished Refilled t.refilled) (pick (again t.refilled).gone (loop_gone t)) k h
loop_finished t Gone k h = h

loop_turn : (t : Table) (q r : State) (k : Token) → height q ≤ height r → at_state (again (at t q)) r ≡ true → Has (at (looped t) r) k → Has (at (looped t) q) k
unfolding looped loop_live loop_vacant loop_refilled loop_gone
loop_turn t Live Live k l p h = h
loop_turn t Vacant Vacant k l p h = h
loop_turn t Refilled Refilled k l p h = h
loop_turn t Gone Gone k l p h = h
loop_turn t Live Vacant k l p h =
    merge_right (finished Live t.live) (merge (pick (again t.live).vacant (loop_vacant t)) (merge (pick (again t.live).refilled (loop_refilled t)) (pick (again t.live).gone (loop_gone t)))) k
    (merge_left (pick (again t.live).vacant (loop_vacant t)) (merge (pick (again t.live).refilled (loop_refilled t)) (pick (again t.live).gone (loop_gone t))) k
    (pick_has (again t.live).vacant (loop_vacant t) k p h))
loop_turn t Live Refilled k l p h =
    merge_right (finished Live t.live) (merge (pick (again t.live).vacant (loop_vacant t)) (merge (pick (again t.live).refilled (loop_refilled t)) (pick (again t.live).gone (loop_gone t)))) k
    (merge_right (pick (again t.live).vacant (loop_vacant t)) (merge (pick (again t.live).refilled (loop_refilled t)) (pick (again t.live).gone (loop_gone t))) k
    (merge_left (pick (again t.live).refilled (loop_refilled t)) (pick (again t.live).gone (loop_gone t)) k
    (pick_has (again t.live).refilled (loop_refilled t) k p h)))
loop_turn t Live Gone k l p h =
    merge_right (finished Live t.live) (merge (pick (again t.live).vacant (loop_vacant t)) (merge (pick (again t.live).refilled (loop_refilled t)) (pick (again t.live).gone (loop_gone t)))) k
    (merge_right (pick (again t.live).vacant (loop_vacant t)) (merge (pick (again t.live).refilled (loop_refilled t)) (pick (again t.live).gone (loop_gone t))) k
    (merge_right (pick (again t.live).refilled (loop_refilled t)) (pick (again t.live).gone (loop_gone t)) k
    (pick_has (again t.live).gone (loop_gone t) k p h)))
loop_turn t Vacant Refilled k l p h =
    merge_right (finished Vacant t.vacant) (merge (pick (again t.vacant).refilled (loop_refilled t)) (pick (again t.vacant).gone (loop_gone t))) k
    (merge_left (pick (again t.vacant).refilled (loop_refilled t)) (pick (again t.vacant).gone (loop_gone t)) k
    (pick_has (again t.vacant).refilled (loop_refilled t) k p h))
loop_turn t Vacant Gone k l p h =
    merge_right (finished Vacant t.vacant) (merge (pick (again t.vacant).refilled (loop_refilled t)) (pick (again t.vacant).gone (loop_gone t))) k
    (merge_right (pick (again t.vacant).refilled (loop_refilled t)) (pick (again t.vacant).gone (loop_gone t)) k
    (pick_has (again t.vacant).gone (loop_gone t) k p h))
loop_turn t Refilled Gone k l p h =
    merge_right (finished Refilled t.refilled) (pick (again t.refilled).gone (loop_gone t)) k
    (pick_has (again t.refilled).gone (loop_gone t) k p h)
loop_turn t Vacant Live k l p h = absurd (omega arith)
loop_turn t Refilled Live k l p h = absurd (omega arith)
loop_turn t Refilled Vacant k l p h = absurd (omega arith)
loop_turn t Gone Live k l p h = absurd (omega arith)
loop_turn t Gone Vacant k l p h = absurd (omega arith)
loop_turn t Gone Refilled k l p h = absurd (omega arith)

-- ---- the others

catching_has : (c : Way) (e : Effect) (x : Way) (o : Outcome) → Has e (token x o) → Has (catching c e) (token (caught c x) o)
unfolding catching
catching_has Broken e Next (fine r) h = unite_left e.next e.broken r h
catching_has Broken e Broken (fine r) h = unite_right e.next e.broken r h
catching_has Broken e Continued (fine r) h = h
catching_has Broken e Returned (fine r) h = h
catching_has Broken e Never (fine r) h = h
catching_has Broken e x (off t) h = h
catching_has Continued e Next (fine r) h = unite_left e.next e.continued r h
catching_has Continued e Continued (fine r) h = unite_right e.next e.continued r h
catching_has Continued e Broken (fine r) h = h
catching_has Continued e Returned (fine r) h = h
catching_has Continued e Never (fine r) h = h
catching_has Continued e x (off t) h = h
catching_has Next e x o h = h
catching_has Returned e Next (fine r) h = unite_left e.next e.returned r h
catching_has Returned e Returned (fine r) h = unite_right e.next e.returned r h
catching_has Returned e Broken (fine r) h = h
catching_has Returned e Continued (fine r) h = h
catching_has Returned e Never (fine r) h = h
catching_has Returned e x (off t) h = h
catching_has Never e x o h = h

catch_at : (c : Way) (t : Table) (q : State) → at (catch_all c t) q ≡ catching c (at t q)
unfolding catch_all
catch_at c t Live = refl
catch_at c t Vacant = refl
catch_at c t Refilled = refl
catch_at c t Gone = refl

only_has : (x : Way) (q : State) → Has (only x (just q)) (leaves x q)
only_has x q = ap (λ a. at_state a q) (only_at x (just q)) ∙ just_at q

cuts_token : (x : Way) (o : Outcome) → goes_on x ≡ false → Cuts (token x o)
cuts_token x (fine r) c = c
cuts_token x (off t) c = tt

-- a word without letters
silent_has : {m : Rules} {q : State} {w : List LetterAt} {o : Outcome} (x : Way) → Runs m q w o → w ≡ [] → Has (only x (just q)) (token x o)
silent_has x (at_end {q = q}) e = only_has x q
silent_has x (is_off h) e = cc
silent_has x (goes h i) e = cc

-- a word of one letter
spelled_has : {m : Rules} {q : State} {w : List LetterAt} {o : Outcome} → Runs m q w o → (l : Letter) (s : Position) → w ≡ letter_at l s ∷ []
    → Has (spelling (steps m q l) (is_wrong m q l) s) (token Next o)
spelled_has at_end l s e = cc
spelled_has {m = m} {q = q} (is_off {l = j} {s = t} h) l s e =
    let p : j ≡ l = cc in let d : t ≡ s = cc in
    subst (λ z. Has (spelling (steps m q l) (is_wrong m q l) s) (offends z)) (sym d) (spelling_wrong (steps m q l) (is_wrong m q l) s (subst (λ z. is_wrong m q z ≡ true) p h))
spelled_has {m = m} {q = q} (goes {k = k} {l = j} {s = t} {w = v} h i) l s e =
    let p : j ≡ l = cc in let n : v ≡ [] = cc in
    end_has i n (spelling_state (steps m q l) (is_wrong m q l) s k (subst (λ z. steps m q z ≡ Some k) p h))
  where
    end_has : {k : State} {v : List LetterAt} {o : Outcome} → Runs m k v o → v ≡ [] → Has (spelling (steps m q l) (is_wrong m q l) s) (leaves Next k) → Has (spelling (steps m q l) (is_wrong m q l) s) (token Next o)
    end_has at_end n f = f
    end_has (is_off h) n f = cc
    end_has (goes h i) n f = cc

letter_has : (m : Rules) (q : State) (l : Letter) (s : Position) (o : Outcome) (b : Bool) → Runs m q (if b then letter_at l s ∷ [] else []) o → Has (marked m b l s q) (token Next o)
letter_has m q l s o true h = spelled_has h l s refl
letter_has m q l s o false h = silent_has Next h refl

module _ (m : Rules) where
  seq_first : (s t : Table) (q : State) (x : Way) (u w : List LetterAt) (o : Outcome) → ((z : Outcome) → Runs m q u z → Has (at s q) (token Next z))
      → ((r : State) (z : Outcome) → Runs m r w z → Has (at t r) (token x z)) → Parts m q u w o → Has (at (in_turn s t) q) (token x o)
  unfolding Parts
  seq_first s t q x u w o f g (inl (n, e, h)) = subst (λ z. Has (at (in_turn s t) q) (token x z)) (sym e)
      (subst (λ i. Has i (offends n)) (sym (in_turn_at s t q)) (followed_cut (at s q) t (offends n) tt (f (off n) h)))
  seq_first s t q x u w o f g (inr (r, h, i)) = subst (λ e. Has e (token x o)) (sym (in_turn_at s t q)) (followed_on (at s q) t (token x o) r (f (fine r) h) (g r o i))

  loop_first : (t : Table) (q : State) (y : Way) (u w : List LetterAt) (o : Outcome) → ((z : Outcome) → Runs m q u z → Has (at t q) (token Next z))
      → ((r : State) (z : Outcome) → Runs m r w z → Has (at (looped t) r) (token y z)) → Parts m q u w o → Has (at (looped t) q) (token y o)
  unfolding Parts
  loop_first t q y u w o f g (inl (n, e, h)) = subst (λ z. Has (at (looped t) q) (token y z)) (sym e) (loop_finished t q (offends n) (finished_off q (at t q) n (f (off n) h)))
  loop_first t q y u w o f g (inr (r, h, i)) = loop_turn t q r (token y o) (above h r refl) (f (fine r) h) (g r o i)

  loop_out : (t : Table) (q : State) (x : Way) (o : Outcome) → goes_on x ≡ false → Has (at t q) (token x o) → Has (at (looped t) q) (token x o)
  loop_out t q x (fine r) c h = loop_finished t q (leaves x r) (finished_out q r (at t q) x c h)
  loop_out t q x (off n) c h = loop_finished t q (offends n) (finished_off q (at t q) n h)

  no_turn_has : {q : State} {w : List LetterAt} {o : Outcome} (t : Table) → Runs m q w o → w ≡ [] → Has (at (looped t) q) (token Next o)
  no_turn_has t (at_end {q = q}) e = loop_finished t q (leaves Next q) (finished_now q (at t q))
  no_turn_has t (is_off h) e = cc
  no_turn_has t (goes h i) e = cc

  pub complete : {who : Option ℕ} {b : PathBody} {w : List LetterAt} {x : Way} → Words who b w x → (q : State) (o : Outcome) → Runs m q w o → Has (at (sweep m who b) q) (token x o)
  complete (by_leaving {x = x}) q o h = subst (λ i. Has i (token x o)) (sym (leaving_at x q)) (silent_has x h refl)
  complete {who = who} (by_letter {v = v} {l = l} {s = s}) q o h = subst (λ i. Has i (token Next o)) (sym (letter_table_at m (is_spelled who v) l s q)) (letter_has m q l s o (is_spelled who v) h)
  complete {who = who} (by_both {a = a} {b = b} {u = u} {w = w} {x = x} h k) q o e =
      seq_first (sweep m who a) (sweep m who b) q x u w o (λ z d. complete h q z d) (λ r z d. complete k r z d) (parts m u q w o e)
  complete {who = who} (by_first_alone {a = a} {b = b} {u = u} {x = x} c h) q o e =
      subst (λ i. Has i (token x o)) (sym (in_turn_at (sweep m who a) (sweep m who b) q)) (followed_cut (at (sweep m who a) q) (sweep m who b) (token x o) (cuts_token x o c) (complete h q o e))
  complete {who = who} (by_left {a = a} {b = b} {x = x} h) q o e =
      subst (λ i. Has i (token x o)) (sym (choice_at (sweep m who a) (sweep m who b) q)) (merge_left (at (sweep m who a) q) (at (sweep m who b) q) (token x o) (complete h q o e))
  complete {who = who} (by_right {a = a} {b = b} {x = x} h) q o e =
      subst (λ i. Has i (token x o)) (sym (choice_at (sweep m who a) (sweep m who b) q)) (merge_right (at (sweep m who a) q) (at (sweep m who b) q) (token x o) (complete h q o e))
  complete {who = who} (by_no_turn {a = a}) q o e = no_turn_has (sweep m who a) e refl
  complete {who = who} (by_turn {a = a} {u = u} {w = w} {y = y} h k) q o e =
      loop_first (sweep m who a) q y u w o (λ z d. complete h q z d) (λ r z d. complete k r z d) (parts m u q w o e)
  complete {who = who} (by_last_turn {a = a} {x = x} c h) q o e = loop_out (sweep m who a) q x o c (complete h q o e)
  complete {who = who} (by_catching {c = c} {a = a} {x = x} h) q o e = subst (λ i. Has i (token (caught c x) o)) (sym (catch_at c (sweep m who a) q)) (catching_has c (at (sweep m who a) q) x o (complete h q o e))
  complete (by_scope h) q o e = complete h q o e
