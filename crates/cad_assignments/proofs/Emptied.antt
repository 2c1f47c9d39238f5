-- A place of a node's row is emptied, and filled.
use Rattle.std.proofs.Common.{◌≡◌, ℕ, Option, Some, None, refl, sym, ap, ◌∙◌}
use Rattle.cad_rows.specs.Places.{bare_in}
use Rattle.cad_world.specs.Labels.{at}
use Rattle.cad_world.specs.Locations.{Location, variable, contract, stored, receiver, part, element, entry, as_read, with_found, slot_of, changed_at, in_node}
use Rattle.cad_world.specs.Rows.{Tree, Found, full, slot, clear, put, bare_tree}
use Rattle.cad_world.specs.State.{State, Action, ok, bind, or_fail, with_some, give}
use Rattle.cad_evaluation.specs.Changing.{take, take_slot, put_at}
use Rattle.cad_labels.specs.Laws.{Keeps, AnyOne}
use Rattle.cad_labels.proofs.Keeping.{keeps_bind}
use Rattle.cad_labels.proofs.Places.{slot_keeps, cleared_stands}
use Rattle.cad_locations.specs.Code.Spots.{IsPlace}
use Rattle.cad_assignments.specs.Code.Emptied.{emptied, taken_out}

abbrev pub cleared_place : ℕ → ℕ → Action (Option Tree)
cleared_place l i = with_found l (λ f s. ok (bare_in (slot i f.tree.parts)) (in_node clear l i (at l s) s))

pub emptied_place : (x : Location) (l i : ℕ) (s : State) → IsPlace x l i s → emptied x s ≡ cleared_place l i s
emptied_place x l i s is = ap (λ r. bind r (λ o v. ok (bare_in o) (changed_at clear x v))) is.slot ∙ go (at l s)
  where
    go : (o : Option Found) → bind (or_fail 113 o (λ f. give (slot i f.tree.parts)) s) (λ q v. ok (bare_in q) (changed_at clear x v)) ≡ or_fail 113 o (λ f v. ok (bare_in (slot i f.tree.parts)) (in_node clear l i (at l v) v)) s
    go None = refl
    go (Some f) = ap (ok (bare_in (slot i f.tree.parts))) (is.changed clear s.next_label)

pub put_place : (x : Location) (l i : ℕ) (t : Tree) (s : State) → IsPlace x l i s → put_at x t s ≡ put_at (part l i) t s
put_place x l i t s is = ap (ok tt) (is.changed (λ j. put j t) s.next_label)

pub emptied_keeps : (x : Location) → Keeps AnyOne (emptied x)
emptied_keeps x = keeps_bind AnyOne AnyOne (slot_of x) (λ o s. ok (bare_in o) (changed_at clear x s)) (slot_keeps x) (λ o any s once. (any, cleared_stands x s once))

bare_read : (x : Location) (t : Tree) → bare_tree (as_read x t) ≡ as_read x (bare_tree t)
bare_read (variable x) t = refl
bare_read (contract id) t = refl
bare_read (stored a n) t = refl
bare_read (receiver l) t = refl
bare_read (part l i) t = refl
bare_read (element l i) t = refl
bare_read (entry l key) t = refl

-- what stands there is taken out
pub taken_full : (x : Location) (t : Tree) (s : State) → slot_of x s ≡ ok (full t) s → take x s ≡ taken_out x s
taken_full x t s e =
    ap (λ r. bind r (λ o. take_slot x o)) e
    ∙ ap (λ u. ok u (changed_at clear x s)) (bare_read x t)
    ∙ sym (ap (λ r. bind (bind r (λ o v. ok (bare_in o) (changed_at clear x v))) (λ o. with_some o (λ u. give (as_read x u)))) e)
