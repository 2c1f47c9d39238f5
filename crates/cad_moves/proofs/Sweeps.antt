-- A sweep gathers exactly what the words of a body come to.
use Rattle.std.proofs.Common.{◌≡◌, refl, sym, ◌∙◌, ap, subst, ◌⊎◌, inl, inr, ℕ, Bool, true, false, List, [], ◌∷◌, ◌++◌, if◌then◌else◌}
use Rattle.std.specs.Prelude.{Option, Some, None}
use Rattle.cad_paths.specs.declared.letter.Letter.{Letter}
use Rattle.cad_paths.specs.declared.letter.Way.{Way}
use Rattle.cad_paths.specs.declared.letter.Way.TheVariants.{Next, Broken, Continued, Returned, Never}
use Rattle.cad_paths.specs.declared.letter.Position.{Position}
use Rattle.cad_paths.specs.Paths.{PathVariable, PathBody, leave, spell, seq, either, loop, catch, scope, LetterAt, letter_at, is_spelled, spelled, caught, Words, by_leaving, by_letter, by_both, by_first_alone, by_left, by_right, by_no_turn, by_turn, by_last_turn, by_catching, by_scope}
use Rattle.cad_paths.specs.Linear.{NotAfter}
use Rattle.cad_moves.specs.declared.state.Rules.{Rules}
use Rattle.cad_moves.specs.declared.state.State.{State}
use Rattle.cad_moves.specs.declared.state.State.TheVariants.{Live, Vacant, Refilled, Gone}
use Rattle.cad_moves.specs.declared.table.Effect.{Effect}
use Rattle.cad_moves.specs.declared.table.Table.{Table}
use Rattle.cad_moves.specs.Code.Machine.{Outcome, fine, off, Runs, at_end, is_off, goes, steps, is_wrong}
use Rattle.cad_moves.specs.Code.Tables.{at_state, just, only, merge, pick, followed, catching, finished, again, at, spelling, stepped, marked, leaving, letter, in_turn, choice, loop_gone, loop_refilled, loop_vacant, loop_live, looped, catch_all, sweep, Token, leaves, offends, Has}
use Rattle.cad_moves.proofs.Has.{unite_split, none_at, just_is, merge_split, only_split, spelling_split, Comes, pick_split, Cuts, followed_split}

-- ---- runs

-- on behind a word that comes to a state
pub run_on : {m : Rules} {q r : State} {o : Outcome} {u w : List LetterAt} → Runs m q u (fine r) → Runs m r w o → Runs m q (u ++ w) o
run_on at_end k = k
run_on (goes e h) k = goes e (run_on h k)

-- what goes wrong stays wrong
pub run_off : {m : Rules} {q : State} {t : Position} {u : List LetterAt} (w : List LetterAt) → Runs m q u (off t) → Runs m q (u ++ w) (off t)
run_off w (is_off e) = is_off e
run_off w (goes e h) = goes e (run_off w h)

-- ---- each body has a word

some_seq : (who : Option ℕ) (a b : PathBody) (u : List LetterAt) (x : Way) → Words who a u x → ((w : List LetterAt) × (y : Way) × Words who b w y) → (w : List LetterAt) × (y : Way) × Words who (seq a b) w y
some_seq who a b u Next h p = (u ++ p.0, p.1, by_both h p.2)
some_seq who a b u Broken h p = (u, Broken, by_first_alone refl h)
some_seq who a b u Continued h p = (u, Continued, by_first_alone refl h)
some_seq who a b u Returned h p = (u, Returned, by_first_alone refl h)
some_seq who a b u Never h p = (u, Never, by_first_alone refl h)

pub some_word : (who : Option ℕ) (b : PathBody) → (w : List LetterAt) × (x : Way) × Words who b w x
some_word who (leave x) = ([], x, by_leaving)
some_word who (spell v l s) = (spelled who v l s, Next, by_letter)
some_word who (seq a b) = let p = some_word who a in some_seq who a b p.0 p.1 p.2 (some_word who b)
some_word who (either a b) = let p = some_word who a in (p.0, p.1, by_left p.2)
some_word who (loop a) = ([], Next, by_no_turn)
some_word who (catch c a) = let p = some_word who a in (p.0, caught c p.1, by_catching p.2)
some_word who (scope v s b) = let p = some_word who b in (p.0, p.1, by_scope p.2)

-- what some word comes to
abbrev pub Reach : Rules → Option ℕ → PathBody → State → Token → Type 0
Reach m who b q (leaves x r) = (w : List LetterAt) × Words who b w x × Runs m q w (fine r)
Reach m who b q (offends n) = (w : List LetterAt) × (x : Way) × (t : Position) × Words who b w x × Runs m q w (off t) × NotAfter t n

module _ (m : Rules) (who : Option ℕ) where
  -- ---- sequence

  seq_off : (a b : PathBody) (q : State) (n t : Position) (u : List LetterAt) (x : Way) → Words who a u x → Runs m q u (off t) → NotAfter t n
      → ((w : List LetterAt) × (y : Way) × Words who b w y) → Reach m who (seq a b) q (offends n)
  seq_off a b q n t u Next h e l p = (u ++ p.0, p.1, t, by_both h p.2, run_off p.0 e, l)
  seq_off a b q n t u Broken h e l p = (u, Broken, t, by_first_alone refl h, e, l)
  seq_off a b q n t u Continued h e l p = (u, Continued, t, by_first_alone refl h, e, l)
  seq_off a b q n t u Returned h e l p = (u, Returned, t, by_first_alone refl h, e, l)
  seq_off a b q n t u Never h e l p = (u, Never, t, by_first_alone refl h, e, l)

  seq_cut : (a b : PathBody) (q : State) (k : Token) → Cuts k → Reach m who a q k → Reach m who (seq a b) q k
  seq_cut a b q (leaves x r) c (w, h, e) = (w, by_first_alone c h, e)
  seq_cut a b q (offends n) c (w, x, t, h, e, l) = seq_off a b q n t w x h e l (some_word who b)

  seq_on : (a b : PathBody) (q r : State) (k : Token) → Reach m who a q (leaves Next r) → Reach m who b r k → Reach m who (seq a b) q k
  seq_on a b q r (leaves x s) (u, h, e) (w, i, d) = (u ++ w, by_both h i, run_on e d)
  seq_on a b q r (offends n) (u, h, e) (w, x, t, i, d, l) = (u ++ w, x, t, by_both h i, run_on e d, l)

  -- ---- either

  either_left : (a b : PathBody) (q : State) (k : Token) → Reach m who a q k → Reach m who (either a b) q k
  either_left a b q (leaves x r) (w, h, e) = (w, by_left h, e)
  either_left a b q (offends n) (w, x, t, h, e, l) = (w, x, t, by_left h, e, l)

  either_right : (a b : PathBody) (q : State) (k : Token) → Reach m who b q k → Reach m who (either a b) q k
  either_right a b q (leaves x r) (w, h, e) = (w, by_right h, e)
  either_right a b q (offends n) (w, x, t, h, e, l) = (w, x, t, by_right h, e, l)

  -- ---- loop

  turn_on : (a : PathBody) (q r : State) (k : Token) → Reach m who a q (leaves Next r) → Reach m who (loop a) r k → Reach m who (loop a) q k
  turn_on a q r (leaves y s) (u, h, e) (w, i, d) = (u ++ w, by_turn h i, run_on e d)
  turn_on a q r (offends n) (u, h, e) (w, y, t, i, d, l) = (u ++ w, y, t, by_turn h i, run_on e d, l)

  loop_off : (a : PathBody) (q : State) (n t : Position) (u : List LetterAt) (x : Way) → Words who a u x → Runs m q u (off t) → NotAfter t n → Reach m who (loop a) q (offends n)
  loop_off a q n t u Next h e l = (u ++ [], Next, t, by_turn h by_no_turn, run_off [] e, l)
  loop_off a q n t u Broken h e l = (u, Broken, t, by_last_turn refl h, e, l)
  loop_off a q n t u Continued h e l = (u, Continued, t, by_last_turn refl h, e, l)
  loop_off a q n t u Returned h e l = (u, Returned, t, by_last_turn refl h, e, l)
  loop_off a q n t u Never h e l = (u, Never, t, by_last_turn refl h, e, l)

  finished_sound : (a : PathBody) (q : State) (e : Effect) → ((k : Token) → Has e k → Reach m who a q k) → (k : Token) → Has (finished q e) k → Reach m who (loop a) q k
  unfolding finished
  finished_sound a q e f (leaves Next r) h = ([], by_no_turn, subst (λ z. Runs m q [] (fine z)) (just_is q r h) at_end)
  finished_sound a q e f (leaves Broken r) h = let p = f (leaves Broken r) h in (p.0, by_last_turn refl p.1, p.2)
  finished_sound a q e f (leaves Continued r) h = let p = f (leaves Continued r) h in (p.0, by_last_turn refl p.1, p.2)
  finished_sound a q e f (leaves Returned r) h = let p = f (leaves Returned r) h in (p.0, by_last_turn refl p.1, p.2)
  finished_sound a q e f (leaves Never r) h = let p = f (leaves Never r) h in (p.0, by_last_turn refl p.1, p.2)
  finished_sound a q e f (offends n) h = let p = f (offends n) h in loop_off a q n p.2 p.0 p.1 p.3 p.4 p.5

  again_sound : (a : PathBody) (q r : State) (e : Effect) → ((k : Token) → Has e k → Reach m who a q k) → (k : Token) → at_state (again e) r ≡ true → Reach m who (loop a) r k → Reach m who (loop a) q k
  again_sound a q r e f k h i = turn_on a q r k (f (leaves Next r) h) i

  abbrev Sound : PathBody → Table → Type 0
  Sound b t = (q : State) (k : Token) → Has (at t q) k → Reach m who b q k

  pick_sound : (a : PathBody) (t : Table) → Sound a t → (q r : State) (e : Effect) → ((k : Token) → Has e k → Reach m who (loop a) r k)
      → (k : Token) → Has (pick (at_state (again (at t q)) r) e) k → Reach m who (loop a) q k
  pick_sound a t f q r e g k h = let p = pick_split (at_state (again (at t q)) r) e k h in again_sound a q r (at t q) (f q) k p.0 (g k p.1)

  merge_sound : (d e : Effect) (P : Token → Type 0) → ((k : Token) → Has d k → P k) → ((k : Token) → Has e k → P k) → (k : Token) → Has (merge d e) k → P k
  merge_sound d e P f g k h = go (merge_split d e k h)
    where
      go : Has d k ⊎ Has e k → P k
      go (inl i) = f k i
      go (inr i) = g k i

  gone_sound : (a : PathBody) (t : Table) → Sound a t → (k : Token) → Has (loop_gone t) k → Reach m who (loop a) Gone k
  unfolding loop_gone
  gone_sound a t f = finished_sound a Gone t.gone (f Gone)

  refilled_sound : (a : PathBody) (t : Table) → Sound a t → (k : Token) → Has (loop_refilled t) k → Reach m who (loop a) Refilled k
  unfolding loop_refilled
  refilled_sound a t f = merge_sound (finished Refilled t.refilled) (pick (again t.refilled).gone (loop_gone t)) (Reach m who (loop a) Refilled)
      (finished_sound a Refilled t.refilled (f Refilled)) (pick_sound a t f Refilled Gone (loop_gone t) (gone_sound a t f))

  vacant_sound : (a : PathBody) (t : Table) → Sound a t → (k : Token) → Has (loop_vacant t) k → Reach m who (loop a) Vacant k
  unfolding loop_vacant
  vacant_sound a t f = merge_sound (finished Vacant t.vacant) (merge (pick (again t.vacant).refilled (loop_refilled t)) (pick (again t.vacant).gone (loop_gone t))) (Reach m who (loop a) Vacant)
      (finished_sound a Vacant t.vacant (f Vacant))
      (merge_sound (pick (again t.vacant).refilled (loop_refilled t)) (pick (again t.vacant).gone (loop_gone t)) (Reach m who (loop a) Vacant)
      (pick_sound a t f Vacant Refilled (loop_refilled t) (refilled_sound a t f))
      (pick_sound a t f Vacant Gone (loop_gone t) (gone_sound a t f)))

  live_sound : (a : PathBody) (t : Table) → Sound a t → (k : Token) → Has (loop_live t) k → Reach m who (loop a) Live k
  unfolding loop_live
  live_sound a t f = merge_sound (finished Live t.live) (merge (pick (again t.live).vacant (loop_vacant t)) (merge (pick (again t.live).refilled (loop_refilled t)) (pick (again t.live).gone (loop_gone t)))) (Reach m who (loop a) Live)
      (finished_sound a Live t.live (f Live))
      (merge_sound (pick (again t.live).vacant (loop_vacant t)) (merge (pick (again t.live).refilled (loop_refilled t)) (pick (again t.live).gone (loop_gone t))) (Reach m who (loop a) Live)
      (pick_sound a t f Live Vacant (loop_vacant t) (vacant_sound a t f))
      (merge_sound (pick (again t.live).refilled (loop_refilled t)) (pick (again t.live).gone (loop_gone t)) (Reach m who (loop a) Live)
      (pick_sound a t f Live Refilled (loop_refilled t) (refilled_sound a t f))
      (pick_sound a t f Live Gone (loop_gone t) (gone_sound a t f))))

  loop_sound : (a : PathBody) (t : Table) → Sound a t → Sound (loop a) (looped t)
  unfolding looped
  loop_sound a t f Live k h = live_sound a t f k h
  loop_sound a t f Vacant k h = vacant_sound a t f k h
  loop_sound a t f Refilled k h = refilled_sound a t f k h
  loop_sound a t f Gone k h = gone_sound a t f k h

  -- ---- catch

  -- through a catch that changes nothing there
  abbrev Passes : Way → Token → Type 0
  Passes c (leaves x r) = caught c x ≡ x
  Passes c (offends n) = Unit {0}

  through : (c : Way) (a : PathBody) (q : State) (k : Token) → Passes c k → Reach m who a q k → Reach m who (catch c a) q k
  through c a q (leaves x r) e (w, h, d) = (w, subst (λ y. Words who (catch c a) w y) e (by_catching {c = c} h), d)
  through c a q (offends n) e (w, x, t, h, d, l) = (w, caught c x, t, by_catching h, d, l)

  catching_sound : (c : Way) (a : PathBody) (q : State) (e : Effect) → ((k : Token) → Has e k → Reach m who a q k) → (k : Token) → Has (catching c e) k → Reach m who (catch c a) q k
  unfolding catching
  catching_sound Broken a q e f (leaves Next r) h = go (unite_split e.next e.broken r h)
    where
      go : (at_state e.next r ≡ true) ⊎ (at_state e.broken r ≡ true) → Reach m who (catch Broken a) q (leaves Next r)
      go (inl i) = through Broken a q (leaves Next r) refl (f (leaves Next r) i)
      go (inr i) = let p = f (leaves Broken r) i in (p.0, by_catching p.1, p.2)
  catching_sound Broken a q e f (leaves Broken r) h = absurd (none_at r h)
  catching_sound Broken a q e f (leaves Continued r) h = through Broken a q (leaves Continued r) refl (f (leaves Continued r) h)
  catching_sound Broken a q e f (leaves Returned r) h = through Broken a q (leaves Returned r) refl (f (leaves Returned r) h)
  catching_sound Broken a q e f (leaves Never r) h = through Broken a q (leaves Never r) refl (f (leaves Never r) h)
  catching_sound Broken a q e f (offends n) h = through Broken a q (offends n) tt (f (offends n) h)
  catching_sound Continued a q e f (leaves Next r) h = go (unite_split e.next e.continued r h)
    where
      go : (at_state e.next r ≡ true) ⊎ (at_state e.continued r ≡ true) → Reach m who (catch Continued a) q (leaves Next r)
      go (inl i) = through Continued a q (leaves Next r) refl (f (leaves Next r) i)
      go (inr i) = let p = f (leaves Continued r) i in (p.0, by_catching p.1, p.2)
  catching_sound Continued a q e f (leaves Continued r) h = absurd (none_at r h)
  catching_sound Continued a q e f (leaves Broken r) h = through Continued a q (leaves Broken r) refl (f (leaves Broken r) h)
  catching_sound Continued a q e f (leaves Returned r) h = through Continued a q (leaves Returned r) refl (f (leaves Returned r) h)
  catching_sound Continued a q e f (leaves Never r) h = through Continued a q (leaves Never r) refl (f (leaves Never r) h)
  catching_sound Continued a q e f (offends n) h = through Continued a q (offends n) tt (f (offends n) h)
  catching_sound Next a q e f (leaves x r) h = through Next a q (leaves x r) refl (f (leaves x r) h)
  catching_sound Next a q e f (offends n) h = through Next a q (offends n) tt (f (offends n) h)
  catching_sound Returned a q e f (leaves Next r) h = go (unite_split e.next e.returned r h)
    where
      go : (at_state e.next r ≡ true) ⊎ (at_state e.returned r ≡ true) → Reach m who (catch Returned a) q (leaves Next r)
      go (inl i) = through Returned a q (leaves Next r) refl (f (leaves Next r) i)
      go (inr i) = let p = f (leaves Returned r) i in (p.0, by_catching p.1, p.2)
  catching_sound Returned a q e f (leaves Returned r) h = absurd (none_at r h)
  catching_sound Returned a q e f (leaves Broken r) h = through Returned a q (leaves Broken r) refl (f (leaves Broken r) h)
  catching_sound Returned a q e f (leaves Continued r) h = through Returned a q (leaves Continued r) refl (f (leaves Continued r) h)
  catching_sound Returned a q e f (leaves Never r) h = through Returned a q (leaves Never r) refl (f (leaves Never r) h)
  catching_sound Returned a q e f (offends n) h = through Returned a q (offends n) tt (f (offends n) h)
  catching_sound Never a q e f (leaves x r) h = through Never a q (leaves x r) refl (f (leaves x r) h)
  catching_sound Never a q e f (offends n) h = through Never a q (offends n) tt (f (offends n) h)

  catch_sound : (c : Way) (a : PathBody) (t : Table) → Sound a t → Sound (catch c a) (catch_all c t)
  unfolding catch_all
  catch_sound c a t f Live = catching_sound c a Live t.live (f Live)
  catch_sound c a t f Vacant = catching_sound c a Vacant t.vacant (f Vacant)
  catch_sound c a t f Refilled = catching_sound c a Refilled t.refilled (f Refilled)
  catch_sound c a t f Gone = catching_sound c a Gone t.gone (f Gone)

-- ---- leaves of the body

pub leaving_at : (x : Way) (q : State) → at (leaving x) q ≡ only x (just q)
unfolding leaving
leaving_at x Live = refl
leaving_at x Vacant = refl
leaving_at x Refilled = refl
leaving_at x Gone = refl

pub letter_table_at : (m : Rules) (b : Bool) (l : Letter) (s : Position) (q : State) → at (letter m b l s) q ≡ marked m b l s q
unfolding letter
letter_table_at m b l s Live = refl
letter_table_at m b l s Vacant = refl
letter_table_at m b l s Refilled = refl
letter_table_at m b l s Gone = refl

pub in_turn_at : (a b : Table) (q : State) → at (in_turn a b) q ≡ followed (at a q) b
unfolding in_turn
in_turn_at a b Live = refl
in_turn_at a b Vacant = refl
in_turn_at a b Refilled = refl
in_turn_at a b Gone = refl

pub choice_at : (a b : Table) (q : State) → at (choice a b) q ≡ merge (at a q) (at b q)
unfolding choice
choice_at a b Live = refl
choice_at a b Vacant = refl
choice_at a b Refilled = refl
choice_at a b Gone = refl

module _ (m : Rules) (who : Option ℕ) where
  -- what one letter comes to
  letter_comes : (v : ℕ) (l : Letter) (s : Position) (q : State) (k : Token) → spelled who v l s ≡ letter_at l s ∷ [] → Comes (steps m q l) (is_wrong m q l) s k → Reach m who (spell v l s) q k
  letter_comes v l s q (leaves x r) d (p, e) =
      (spelled who v l s, subst (λ y. Words who (spell v l s) (spelled who v l s) y) (sym p) by_letter, subst (λ z. Runs m q z (fine r)) (sym d) (goes e at_end))
  letter_comes v l s q (offends n) d (e, i) = (spelled who v l s, Next, s, by_letter, subst (λ z. Runs m q z (off s)) (sym d) (is_off e), i)

  nothing_comes : (v : ℕ) (l : Letter) (s : Position) (q : State) (k : Token) → spelled who v l s ≡ [] → Has (only Next (just q)) k → Reach m who (spell v l s) q k
  nothing_comes v l s q k d h = only_split Next (just q) (Reach m who (spell v l s) q)
      (λ r e. (spelled who v l s, by_letter, subst (λ z. Runs m q z (fine r)) (sym d) (subst (λ z. Runs m q [] (fine z)) (just_is q r e) at_end))) k h

  letter_sound : (v : ℕ) (l : Letter) (s : Position) (q : State) (k : Token) (b : Bool) → is_spelled who v ≡ b → Has (marked m b l s q) k → Reach m who (spell v l s) q k
  letter_sound v l s q k true e h = letter_comes v l s q k (ap (λ z. if z then letter_at l s ∷ [] else []) e) (spelling_split (steps m q l) (is_wrong m q l) s k h)
  letter_sound v l s q k false e h = nothing_comes v l s q k (ap (λ z. if z then letter_at l s ∷ [] else []) e) h

  leave_sound : (x : Way) (q : State) (k : Token) → Has (only x (just q)) k → Reach m who (leave x) q k
  leave_sound x q k h = only_split x (just q) (Reach m who (leave x) q) (λ r e. ([], by_leaving, subst (λ z. Runs m q [] (fine z)) (just_is q r e) at_end)) k h

  seq_sound : (a b : PathBody) (s t : Table) → Sound m who a s → Sound m who b t → (q : State) (k : Token) → Has (followed (at s q) t) k → Reach m who (seq a b) q k
  seq_sound a b s t f g q k h = go (followed_split (at s q) t k h)
    where
      go : (Cuts k × Has (at s q) k) ⊎ ((r : State) × Has (at s q) (leaves Next r) × Has (at t r) k) → Reach m who (seq a b) q k
      go (inl (c, i)) = seq_cut m who a b q k c (f q k i)
      go (inr (r, i, j)) = seq_on m who a b q r k (f q (leaves Next r) i) (g r k j)

  scope_sound : (v : PathVariable) (s : Position) (b : PathBody) (q : State) (k : Token) → Reach m who b q k → Reach m who (scope v s b) q k
  scope_sound v s b q (leaves x r) (w, h, e) = (w, by_scope h, e)
  scope_sound v s b q (offends n) (w, x, t, h, e, l) = (w, x, t, by_scope h, e, l)

pub sound : (m : Rules) (who : Option ℕ) (b : PathBody) → Sound m who b (sweep m who b)
sound m who (leave x) q k h = leave_sound m who x q k (subst (λ e. Has e k) (leaving_at x q) h)
sound m who (spell v l s) q k h = letter_sound m who v l s q k (is_spelled who v) refl (subst (λ e. Has e k) (letter_table_at m (is_spelled who v) l s q) h)
sound m who (seq a b) q k h = seq_sound m who a b (sweep m who a) (sweep m who b) (sound m who a) (sound m who b) q k (subst (λ e. Has e k) (in_turn_at (sweep m who a) (sweep m who b) q) h)
sound m who (either a b) q k h = merge_sound m who (at (sweep m who a) q) (at (sweep m who b) q) (Reach m who (either a b) q)
    (λ j i. either_left m who a b q j (sound m who a q j i)) (λ j i. either_right m who a b q j (sound m who b q j i)) k (subst (λ e. Has e k) (choice_at (sweep m who a) (sweep m who b) q) h)
sound m who (loop a) q k h = loop_sound m who a (sweep m who a) (sound m who a) q k h
sound m who (catch c a) q k h = catch_sound m who c a (sweep m who a) (sound m who a) q k h
sound m who (scope v s b) q k h = scope_sound m who v s b q k (sound m who b q k h)
