-- A variable is filled and assigned.
use Rattle.std.proofs.Common.{◌≡◌, ℕ, zero, suc, true, false, not, List, [], ◌∷◌, Option, Some, None, refl, sym, ap, ◌∙◌, true≢false}
use Rattle.cad_world.specs.Labels.{on_newest, first_of, variables_of, variables, with_variables}
use Rattle.cad_world.specs.Locations.{variable}
use Rattle.cad_world.specs.Rows.{Row, stop, gap, node, Tree, Slot, out, free, full, slot, put, clear}
use Rattle.cad_world.specs.State.{Frame, State, ok, ill, bind, guard}
use Rattle.cad_evaluation.specs.Changing.{take, take_slot, fill, fill_variable, cleared, assigned}
use Rattle.cad_rows.specs.Places.{bare_in}
use Rattle.cad_state.specs.Ways.{is_there, holds_tree, holds_resource}

filled : (x : ℕ) (t : Tree) (s : State) (o : Slot) → holds_tree o ≡ false → fill_variable x t o s ≡ ok tt (with_variables (λ r. put x t r) s)
filled x t s out h = refl
filled x t s free h = refl
filled x t s (full old) h = absurd (true≢false h)

pub fills : (x : ℕ) (t : Tree) (s u : State) → holds_tree (slot x (variables s)) ≡ false → u ≡ with_variables (λ r. put x t r) s → fill (variable x) t s ≡ ok tt u
fills x t s u h e = filled x t s (slot x (variables s)) h ∙ ap (ok tt) (sym e)

not_filled : (x : ℕ) (t : Tree) (s : State) (o : Slot) → holds_tree o ≡ true → fill_variable x t o s ≡ ill
not_filled x t s out h = absurd (true≢false (sym h))
not_filled x t s free h = absurd (true≢false (sym h))
not_filled x t s (full old) h = refl

pub refuses : (x : ℕ) (t : Tree) (s : State) → holds_tree (slot x (variables s)) ≡ true → fill (variable x) t s ≡ ill
refuses x t s h = not_filled x t s (slot x (variables s)) h

pub cleared_slot : (x : ℕ) (r : Row) → holds_tree (slot x (clear x r)) ≡ false
cleared_slot x stop = refl
cleared_slot zero (gap r) = refl
cleared_slot zero (node l n s k r) = refl
cleared_slot (suc x) (gap r) = cleared_slot x r
cleared_slot (suc x) (node l n s k r) = cleared_slot x r

put_cleared : (x : ℕ) (t : Tree) (r : Row) → put x t (clear x r) ≡ put x t r
put_cleared x t stop = refl
put_cleared zero t (gap r) = refl
put_cleared zero t (node l n s k r) = refl
put_cleared (suc x) t (gap r) = ap gap (put_cleared x t r)
put_cleared (suc x) t (node l n s k r) = ap (node l n s k) (put_cleared x t r)

emptied : (x : ℕ) (s : State) → holds_tree (slot x (variables (with_variables (λ r. clear x r) s))) ≡ false
emptied x s = go s.frames
  where
    go : (fs : List Frame) → holds_tree (slot x (variables_of (first_of (on_newest (λ f. record f { variables = clear x f.variables }) fs)))) ≡ false
    go [] = refl
    go (f ∷ fs) = cleared_slot x f.variables

put_emptied : (x : ℕ) (t : Tree) (s : State) → with_variables (λ r. put x t r) (with_variables (λ r. clear x r) s) ≡ with_variables (λ r. put x t r) s
put_emptied x t s = ap (λ fs. record s { frames = fs }) (go s.frames)
  where
    go : (fs : List Frame) → on_newest (λ f. record f { variables = put x t f.variables }) (on_newest (λ f. record f { variables = clear x f.variables }) fs) ≡ on_newest (λ f. record f { variables = put x t f.variables }) fs
    go [] = refl
    go (f ∷ fs) = ap (λ r. record f { variables = r } ∷ fs) (put_cleared x t f.variables)

assigned_over : (x : ℕ) (t : Tree) (s : State) (o : Slot) → slot x (variables s) ≡ o → holds_resource o ≡ false → bind (cleared (variable x) o s) (λ _ v. fill (variable x) t v) ≡ ok tt (with_variables (λ r. put x t r) s)
assigned_over x t s out e h = filled x t s (slot x (variables s)) (ap holds_tree e)
assigned_over x t s free e h = filled x t s (slot x (variables s)) (ap holds_tree e)
assigned_over x t s (full old) e h =
    ap (λ b. bind (guard (not b) (λ u. ok tt (with_variables (λ r. clear x r) u)) s) (λ _ v. fill (variable x) t v)) h
    ∙ filled x t (with_variables (λ r. clear x r) s) (slot x (variables (with_variables (λ r. clear x r) s))) (emptied x s)
    ∙ ap (ok tt) (put_emptied x t s)

pub assigns : (x : ℕ) (t : Tree) (s u : State) → holds_resource (slot x (variables s)) ≡ false → u ≡ with_variables (λ r. put x t r) s → assigned (variable x) t s ≡ ok tt u
assigns x t s u h e = assigned_over x t s (slot x (variables s)) refl h ∙ ap (ok tt) (sym e)

not_assigned : (x : ℕ) (t : Tree) (s : State) (o : Slot) → holds_resource o ≡ true → bind (cleared (variable x) o s) (λ _ v. fill (variable x) t v) ≡ ill
not_assigned x t s out h = absurd (true≢false (sym h))
not_assigned x t s free h = absurd (true≢false (sym h))
not_assigned x t s (full old) h = ap (λ b. bind (guard (not b) (λ u. ok tt (with_variables (λ r. clear x r) u)) s) (λ _ v. fill (variable x) t v)) h

pub keeps_resource : (x : ℕ) (t : Tree) (s : State) → holds_resource (slot x (variables s)) ≡ true → assigned (variable x) t s ≡ ill
keeps_resource x t s h = not_assigned x t s (slot x (variables s)) h

taken_from : (x : ℕ) (s : State) (o : Slot) (t : Tree) → Some t ≡ bare_in o → take_slot (variable x) o s ≡ ok t (with_variables (λ r. clear x r) s)
taken_from x s out t e = absurd (true≢false (ap is_there e))
taken_from x s free t e = absurd (true≢false (ap is_there e))
taken_from x s (full old) t e = ap (λ o. ok (or_it o) (with_variables (λ r. clear x r) s)) (sym e)
  where
    or_it : Option Tree → Tree
    or_it None = t
    or_it (Some y) = y

pub takes : (x : ℕ) (s u : State) (t : Tree) → Some t ≡ bare_in (slot x (variables s)) → u ≡ with_variables (λ r. clear x r) s → take (variable x) s ≡ ok t u
takes x s u t e d = taken_from x s (slot x (variables s)) t e ∙ ap (ok t) (sym d)

not_taken : (x : ℕ) (s : State) (o : Slot) → None ≡ bare_in o → take_slot (variable x) o s ≡ ill
not_taken x s out e = refl
not_taken x s free e = refl
not_taken x s (full old) e = absurd (true≢false (ap is_there (sym e)))

pub nothing_to_take : (x : ℕ) (s : State) → None ≡ bare_in (slot x (variables s)) → take (variable x) s ≡ ill
nothing_to_take x s e = not_taken x s (slot x (variables s)) e
