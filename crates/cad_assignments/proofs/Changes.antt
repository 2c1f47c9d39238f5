-- An old value goes, and a new one comes.
use Rattle.std.proofs.Common.{◌≡◌, ℕ, Bool, true, false, not, ◌||◌, List, [], ◌∷◌, ◌++◌, refl, sym, ap, ◌∙◌}
use Rattle.std.specs.Prelude.{if◌then◌else◌}
use Rattle.cad_outcomes.specs.declared.stop.Stop.{Stop}
use Rattle.cad_outcomes.specs.Outcomes.{Stops}
use Rattle.cad_outcomes.proofs.Steps.{stops_on, stops_same}
use Rattle.cad_labels.specs.Laws.{Keeps, AnyOne}
use Rattle.cad_labels.proofs.Forms.{keeps_done, keeps_guard}
use Rattle.cad_labels.proofs.Keeping.{keeps_bind, stays}
use Rattle.cad_labels.proofs.Places.{slot_keeps, empty_keeps, cleared_stands, content_gives}
use Rattle.cad_rows.specs.Owned.{is_resource}
use Rattle.cad_rows.specs.Places.{bare_in}
use Rattle.cad_world.specs.Locations.{Location, variable, contract, stored, receiver, part, element, entry, slot_of, changed_at, as_read}
use Rattle.cad_world.specs.Rows.{Tree, Slot, out, free, full, clear, identities, own_identity, tree_owns, owns, is_none_left}
use Rattle.cad_world.specs.State.{State, ok, ill, bind, ◌>>◌, done, fail, guard}
use Rattle.cad_evaluation.specs.Changing.{Content, nothing, content, no_optional, content_of, by_content, cleared, empty_if_nil, nothing_there}
use Rattle.cad_assignments.specs.Code.Changes.{gone, old_cleared, nil_read, nil_cleared}

-- ---- resources

first_or_rest : (xs ys : List ℕ) → (if is_none_left (xs ++ ys) then false else true) ≡ ((if is_none_left xs then false else true) || (if is_none_left ys then false else true))
first_or_rest [] ys = refl
first_or_rest (x ∷ xs) ys = refl

pub owned_so : (t : Tree) (a b : Bool) → a ≡ is_resource t.shape → b ≡ owns t.parts → (a || b) ≡ tree_owns t
owned_so t a b e d = (λ i. e i || d i) ∙ sym (first_or_rest (own_identity t.shape) (identities t.parts))

-- ---- assignment

gone_full : (x : Location) (t : Tree) (s : State) → slot_of x s ≡ ok (full t) s → gone x s ≡ ok tt (changed_at clear x s)
gone_full x t s e = ap (λ r. bind (bind r (λ o v. ok (bare_in o) (changed_at clear x v))) (λ _ v. done v)) e

pub owned_refused : (x : Location) (t : Tree) (s : State) → slot_of x s ≡ ok (full t) s → true ≡ tree_owns t → old_cleared x s ≡ ill
owned_refused x t s e h =
    ap (λ r. bind r (λ o v. cleared x o v)) e ∙ ap (λ b. guard (not b) (λ v. ok tt (changed_at clear x v)) s) (sym h)

pub old_gone : (x : Location) (t : Tree) (s : State) → slot_of x s ≡ ok (full t) s → false ≡ tree_owns t → old_cleared x s ≡ gone x s
old_gone x t s e h =
    ap (λ r. bind r (λ o v. cleared x o v)) e ∙ ap (λ b. guard (not b) (λ v. ok tt (changed_at clear x v)) s) (sym h) ∙ sym (gone_full x t s e)

clears_so : (x : Location) (o : Slot) → Keeps AnyOne (cleared x o)
clears_so x (full t) = keeps_guard AnyOne (not (tree_owns t)) (λ v. ok tt (changed_at clear x v)) (λ s once. (tt, cleared_stands x s once))
clears_so x free = keeps_done
clears_so x out = keeps_done

pub clearing_keeps : (x : Location) → Keeps AnyOne (old_cleared x)
clearing_keeps x = keeps_bind AnyOne AnyOne (slot_of x) (cleared x) (slot_keeps x) (λ o any. clears_so x o)

-- ---- what is nil goes

nil_step : (x : Location) (t : Tree) (s : State) → slot_of x s ≡ ok (full t) s → nil_cleared x s ≡ (nil_read x t >> gone x) s
nil_step x t s e = ap (λ r. bind r (λ o v. empty_if_nil x o v)) e ∙ go (content_of (as_read x t))
  where
    go : (k : Content) → by_content k (λ v. ok tt (changed_at clear x v)) (λ u. fail 115) s ≡ bind (by_content k done (λ u. fail 115) s) (λ _ v. gone x v)
    go nothing = sym (gone_full x t s e)
    go (content u) = refl
    go no_optional = refl

pub nil_goes : (x : Location) (t : Tree) (s : State) → slot_of x s ≡ ok (full t) s → nil_read x t s ≡ ok tt s → nil_cleared x s ≡ gone x s
nil_goes x t s e h = nil_step x t s e ∙ ap (λ r. bind r (λ _ v. gone x v)) h

pub nil_stops : (x : Location) (t : Tree) (s : State) (stop : Stop) → slot_of x s ≡ ok (full t) s → Stops (nil_read x t s) stop → Stops (nil_cleared x s) stop
nil_stops x t s stop e h = stops_same (nil_cleared x s) ((nil_read x t >> gone x) s) stop (nil_step x t s e) (stops_on (nil_read x t s) (λ _ v. gone x v) stop h)

no_place_keeps : (x : Location) → Keeps AnyOne (nothing_there x >> done)
no_place_keeps (variable x) = λ s once. tt
no_place_keeps (contract id) = λ s once. tt
no_place_keeps (stored a n) = λ s once. tt
no_place_keeps (receiver l) = λ s once. tt
no_place_keeps (part l i) = λ s once. tt
no_place_keeps (element l i) = λ s once. tt
no_place_keeps (entry l key) = λ s once. (tt, stays s once)

nil_goes_so : (x : Location) (o : Slot) → Keeps AnyOne (empty_if_nil x o)
nil_goes_so x (full t) = λ s once. content_gives AnyOne (as_read x t) (λ v. ok tt (changed_at clear x v)) (λ u. fail 115) s (tt, cleared_stands x s once) (λ u e. tt)
nil_goes_so x free = empty_keeps AnyOne x
nil_goes_so x out = no_place_keeps x

pub nil_keeps : (x : Location) → Keeps AnyOne (nil_cleared x)
nil_keeps x = keeps_bind AnyOne AnyOne (slot_of x) (empty_if_nil x) (slot_keeps x) (λ o any. nil_goes_so x o)
