-- Fields of nodes as places.
use Rattle.std.proofs.Common.{◌≡◌, ℕ, Bool, List, Option, Some, None, Result, Ok, Err, refl, sym, ap, ◌∙◌}
use Rattle.cad_access.specs.Calls.{MadeIsThat, is_that, made_label}
use Rattle.cad_labels.proofs.Places.{naming_keeps}
use Rattle.cad_labels.specs.Laws.{AnyOne}
use Rattle.cad_outcomes.specs.declared.stop.Stop.{Stop}
use Rattle.cad_syntax.specs.declared.text.Name.{Name}
use Rattle.cad_syntax.specs.declared.type_id.TypeId.{TypeId}
use Rattle.cad_syntax.specs.declared.types.Authorization.{Authorization}
use Rattle.cad_evaluation.specs.Access.{is_made_by, own_member}
use Rattle.cad_evaluation.specs.Reading.{composite_id, field_names}
use Rattle.cad_evaluation.specs.Standing.{Standing, here, named_spot, inner_rights, may_meet, field_of}
use Rattle.cad_world.specs.Labels.{newest, position_of, same_node}
use Rattle.cad_world.specs.Locations.{Location, variable, contract, stored, receiver, part, element, entry, name}
use Rattle.cad_world.specs.Receivers.{Spot}
use Rattle.cad_world.specs.Rows.{Tree}
use Rattle.cad_world.specs.State.{State, Account, ok, ill, bind, Action, ◌>>=◌, give, guard, with_some}
use Rattle.cad_receivers.proofs.Passing.{after_ready}
use Rattle.cad_state.proofs.Finding.{find_same, find_stopped, find_then}
use Rattle.cad_state.specs.Views.{state_over, FindsAndCarriesOut}
use Rattle.cad_state.specs.declared.state.RunState.{RunState}
use Rattle.cad_standing.specs.Code.Plans.{field_in, field_named}
use Rattle.cad_standing.proofs.Composing.{bind_bind, bind_same}

-- a field, by the parts that it is found by
abbrev meets : Bool → Name → Option Authorization → Option TypeId → Option ℕ → Option ℕ → Action Standing
meets writes n rights o k p = λ s.
    with_some o (λ id. with_some (own_member s n id) (λ m. with_some k (λ l. with_some p (λ i.
    guard (may_meet s writes id m l rights) (give (here (inner_rights rights) (part l i) 0)))))) s

meets_all : (writes : Bool) (n : Name) (rights : Option Authorization) (o : Option TypeId) (k p : Option ℕ) (id : TypeId) (l i : ℕ) (s : State)
    → o ≡ Some id → k ≡ Some l → p ≡ Some i → meets writes n rights o k p s ≡ field_in writes n rights id l i s
meets_all writes n rights o k p id l i s e f g =
    ap (λ (x : Option TypeId). meets writes n rights x k p s) e
    ∙ ap (λ (x : Option ℕ). meets writes n rights (Some id) x p s) f
    ∙ ap (λ (x : Option ℕ). meets writes n rights (Some id) (Some l) x s) g

none_either : {A B : Type 0} (o : Option A) (s : State) → with_some {A = A} {B = B} o (λ _ u. ill) s ≡ ill
none_either None s = refl
none_either (Some a) s = refl

meets_no_composite : (writes : Bool) (n : Name) (rights : Option Authorization) (o : Option TypeId) (k p : Option ℕ) (s : State) → o ≡ None → meets writes n rights o k p s ≡ ill
meets_no_composite writes n rights o k p s e = ap (λ (x : Option TypeId). meets writes n rights x k p s) e

meets_no_label : (writes : Bool) (n : Name) (rights : Option Authorization) (o : Option TypeId) (k p : Option ℕ) (s : State) → k ≡ None → meets writes n rights o k p s ≡ ill
meets_no_label writes n rights None k p s e = refl
meets_no_label writes n rights (Some id) k p s e = ap (λ (x : Option ℕ). meets writes n rights (Some id) x p s) e ∙ none_either (own_member s n id) s

meets_no_position : (writes : Bool) (n : Name) (rights : Option Authorization) (o : Option TypeId) (k p : Option ℕ) (s : State) → p ≡ None → meets writes n rights o k p s ≡ ill
meets_no_position writes n rights None k p s e = refl
meets_no_position writes n rights (Some id) None p s e = none_either (own_member s n id) s
meets_no_position writes n rights (Some id) (Some l) p s e = ap (λ (x : Option ℕ). meets writes n rights (Some id) (Some l) x s) e ∙ none_either (own_member s n id) s

-- ---- of a spot

pub field_is : (writes : Bool) (n : Name) (spot : Spot) (id : TypeId) (l i : ℕ) (s : State)
    → composite_id spot.tree ≡ Some id → spot.label ≡ Some l → position_of n (field_names spot.tree.shape) ≡ Some i
    → field_of writes n spot s ≡ field_in writes n spot.rights id l i s
field_is writes n spot id l i s e f g = meets_all writes n spot.rights (composite_id spot.tree) spot.label (position_of n (field_names spot.tree.shape)) id l i s e f g

pub field_of_none : (writes : Bool) (n : Name) (spot : Spot) (s : State) → composite_id spot.tree ≡ None → field_of writes n spot s ≡ ill
field_of_none writes n spot s e = meets_no_composite writes n spot.rights (composite_id spot.tree) spot.label (position_of n (field_names spot.tree.shape)) s e

pub field_unlabelled : (writes : Bool) (n : Name) (spot : Spot) (s : State) → spot.label ≡ None → field_of writes n spot s ≡ ill
field_unlabelled writes n spot s e = meets_no_label writes n spot.rights (composite_id spot.tree) spot.label (position_of n (field_names spot.tree.shape)) s e

pub field_missing : (writes : Bool) (n : Name) (spot : Spot) (s : State) → position_of n (field_names spot.tree.shape) ≡ None → field_of writes n spot s ≡ ill
field_missing writes n spot s e = meets_no_position writes n spot.rights (composite_id spot.tree) spot.label (position_of n (field_names spot.tree.shape)) s e

-- ---- of a node that is named

name_ill : {A : Type 0} (x : Location) (s : State) → bind {B = A} (name x s) (λ _ u. ill) ≡ ill
name_ill (variable n) s = refl
name_ill (contract id) s = refl
name_ill (stored a n) s = refl
name_ill (receiver l) s = refl
name_ill (part l i) s = refl
name_ill (element l i) s = refl
name_ill (entry l key) s = refl

abbrev spot_with : Option Authorization → Tree → ℕ → Spot
spot_with rights t l = record { rights = rights; label = Some l; tree = t }

named_then : (rights : Option Authorization) (x : Location) (t : Tree) (f : Spot → Action Standing) (s : State)
    → (named_spot rights x (Some t) >>= f) s ≡ bind (name x s) (λ l. f (spot_with rights t l))
named_then rights x t f s = bind_bind (name x s) (λ l. give (spot_with rights t l)) f

pub named_is : (writes : Bool) (n : Name) (rights : Option Authorization) (x : Location) (t : Tree) (id : TypeId) (i : ℕ) (s : State)
    → composite_id t ≡ Some id → position_of n (field_names t.shape) ≡ Some i
    → (named_spot rights x (Some t) >>= field_of writes n) s ≡ field_named writes n rights x id i s
named_is writes n rights x t id i s e g =
    named_then rights x t (field_of writes n) s
    ∙ bind_same (name x s) (λ l. field_of writes n (spot_with rights t l)) (λ l. field_in writes n rights id l i) (λ l u. field_is writes n (spot_with rights t l) id l i u e refl g)

pub named_no_composite : (writes : Bool) (n : Name) (rights : Option Authorization) (x : Location) (t : Tree) (s : State)
    → composite_id t ≡ None → (named_spot rights x (Some t) >>= field_of writes n) s ≡ ill
named_no_composite writes n rights x t s e =
    named_then rights x t (field_of writes n) s
    ∙ bind_same (name x s) (λ l. field_of writes n (spot_with rights t l)) (λ _ u. ill) (λ l u. field_of_none writes n (spot_with rights t l) u e) ∙ name_ill x s

pub named_missing : (writes : Bool) (n : Name) (rights : Option Authorization) (x : Location) (t : Tree) (s : State)
    → position_of n (field_names t.shape) ≡ None → (named_spot rights x (Some t) >>= field_of writes n) s ≡ ill
named_missing writes n rights x t s e =
    named_then rights x t (field_of writes n) s
    ∙ bind_same (name x s) (λ l. field_of writes n (spot_with rights t l)) (λ _ u. ill) (λ l u. field_missing writes n (spot_with rights t l) u e) ∙ name_ill x s

-- ---- what is carried out

-- the node that the initializer makes has both labels
pub made_follows : MadeIsThat → (x : RunState) (l made : ℕ) (r : Result Bool Stop) → ((w : List Account) → Some made ≡ made_label (newest (state_over w x)))
    → FindsAndCarriesOut (λ b. b) (λ s. ok (same_node s l made) s) x x r → FindsAndCarriesOut (λ b. b) (λ s. ok (is_made_by s l (newest s)) s) x x r
made_follows law x l made r e h =
    find_same (λ b. b) (λ s. ok (is_made_by s l (newest s)) s) (λ s. ok (same_node s l made) s) x x r
    (λ w ready. ap (λ (b : Bool). ok b (state_over w x)) (law (state_over w x) l ∙ ap (is_that (state_over w x) l) (sym (e w)))) h

pub spot_follows : {D : Type 0} (out : D → Standing) (writes : Bool) (n : Name) (spot : Spot) (id : TypeId) (l i : ℕ) (x : RunState) (r : Result D Stop)
    → composite_id spot.tree ≡ Some id → spot.label ≡ Some l → position_of n (field_names spot.tree.shape) ≡ Some i
    → FindsAndCarriesOut out (field_in writes n spot.rights id l i) x x r → FindsAndCarriesOut out (field_of writes n spot) x x r
spot_follows out writes n spot id l i x r e f g h =
    find_same out (field_of writes n spot) (field_in writes n spot.rights id l i) x x r (λ w ready. field_is writes n spot id l i (state_over w x) e f g) h

pub named_follows : {D : Type 0} (out : D → Standing) (writes : Bool) (n : Name) (rights : Option Authorization) (x : Location) (id : TypeId) (i l : ℕ) (a b c : RunState) (r : Result D Stop)
    → FindsAndCarriesOut {B = ℕ} (λ k. k) (name x) a b (Ok l) → ((w : List Account) → state_over w c ≡ state_over w b)
    → FindsAndCarriesOut out (field_in writes n rights id l i) c c r → FindsAndCarriesOut out (field_named writes n rights x id i) a c r
named_follows out writes n rights x id i l a b c r first same second =
    find_then AnyOne (name x) (naming_keeps x) (λ k. k) out (λ k. field_in writes n rights id k i) l a b c r first
    (λ _. after_ready out (field_in writes n rights id l i) b c c r (λ w ready. same w) second)

pub unnamed : {D : Type 0} (out : D → Standing) (writes : Bool) (n : Name) (rights : Option Authorization) (x : Location) (id : TypeId) (i : ℕ) (a b : RunState) (stop : Stop)
    → FindsAndCarriesOut {B = ℕ} (λ k. k) (name x) a b (Err stop) → FindsAndCarriesOut out (field_named writes n rights x id i) a b (Err stop)
unnamed out writes n rights x id i a b stop first = find_stopped {B = ℕ} (λ k. k) out (name x) (λ k. field_in writes n rights id k i) a b b stop first
