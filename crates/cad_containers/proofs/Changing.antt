-- What is done with the node with a label.
use Rattle.std.proofs.Common.{◌≡◌, ℕ, zero, suc, ◌≤◌, nat_le, Bool, true, false, List, Option, Some, None, ℤ, pos, negsuc, option_map, refl, sym, ap, ◌∙◌, subst, arith}
use Rattle.std.specs.Prelude.{Result, Ok, Err}
use Rattle.cad_syntax.specs.Types.{PureType}
use Rattle.cad_types.specs.Below.{below}
use Rattle.cad_values.specs.Fits.{most_elements}
use Rattle.cad_evaluation.specs.Containers.{becomes, room, of_type, all_of_type, void_tree, array_cut, array_remove_at}
use Rattle.cad_outcomes.specs.Outcomes.{Does, Stops, no_value, error_number}
use Rattle.cad_outcomes.specs.declared.stop.Stop.{Stop}
use Rattle.cad_outcomes.specs.declared.stop.Stop.TheVariants.{Failed, Limit, IllTyped, Memory}
use Rattle.cad_outcomes.proofs.Steps.{stops_same, does_same}
use Rattle.cad_rows.specs.Places.{bare_in}
use Rattle.cad_rows.specs.Views.{pure_tree}
use Rattle.cad_rows.specs.declared.tree.Tree as code
use Rattle.cad_state.specs.Views.{state_over, IsReady, FindsAndCarriesOut}
use Rattle.cad_state.specs.declared.state.RunState.{RunState}
use Rattle.cad_world.specs.Declared.{declarations}
use Rattle.cad_world.specs.Labels.{at, with_node}
use Rattle.cad_world.specs.Locations.{with_found}
use Rattle.cad_world.specs.OwnTypes.{own_type}
use Rattle.cad_world.specs.Rows as rows
use Rattle.cad_world.specs.Rows.{NodeShape, array, Row, stop, gap, node, Tree, Slot, out, free, full, slot, Found, count_places, bare_tree}
use Rattle.cad_world.specs.State.{State, Account, Outcome, ok, failed, limit, ill, Action, done, require, or_fail, with_some, give}
use Rattle.cad_containers.specs.Code.Changes.{Changes, ChangesArray, IsArray, IsNoPlace, Voids, taken_as}
use Rattle.cad_containers.specs.Code.Parts.{IsNegative}
use Rattle.cad_receivers.proofs.Passing.{ready_same}

-- ---- tests before a change

-- a test that changes nothing, before an action
pub data Told (tested : Outcome (Unit {0})) (whole : Outcome Tree) (s : State) (p : Action Tree) : Type 0 where
  passed : tested ≡ ok tt s → whole ≡ p s → Told tested whole s p
  refused : (e : ℕ) → tested ≡ failed e → whole ≡ failed e → Told tested whole s p

told_require : (e : ℕ) (b : Bool) (q : Action (Unit {0})) (whole p : Action Tree) (s : State) → Told (q s) (whole s) s p → Told (require e b q s) (require e b whole s) s p
told_require e true q whole p s h = h
told_require e false q whole p s h = refused e refl refl

told_of_type : (type : PureType) (t : Tree) (q : Action (Unit {0})) (whole p : Action Tree) (s : State) → Told (q s) (whole s) s p → Told (of_type type t q s) (of_type type t whole s) s p
told_of_type type t q whole p s h = go (own_type s t)
  where
    go : (o : Option PureType) → Told (or_fail 113 o (λ own. require 129 (below (declarations s) own type) q) s) (or_fail 113 o (λ own. require 129 (below (declarations s) own type) whole) s) s p
    go None = refused 113 refl refl
    go (Some own) = told_require 129 (below (declarations s) own type) q whole p s h

pub told_type : (type : PureType) (t : Tree) (p : Action Tree) (s : State) → Told (of_type type t done s) (of_type type t p s) s p
told_type type t p s = told_of_type type t done p p s (passed refl refl)

pub told_row : (type : PureType) (r : Row) (p : Action Tree) (s : State) → Told (all_of_type type r done s) (all_of_type type r p s) s p
told_row type stop p s = passed refl refl
told_row type (gap r) p s = told_row type r p s
told_row type (node l n shape k r) p s = told_of_type type (record { optionals = n; shape = shape; parts = k }) (all_of_type type r done) (all_of_type type r p) p s (told_row type r p s)

not_failed : {A : Type 0} (a : A) (s : State) (e : ℕ) → ok a s ≡ failed e → ⊥
not_failed a s e h = cc h

not_limit : {A : Type 0} (a : A) (s : State) → ok a s ≡ limit → ⊥
not_limit a s h = cc h

not_ill : {A : Type 0} (a : A) (s : State) → ok a s ≡ ill → ⊥
not_ill a s h = cc h

-- nothing stops what gives a value
pub never : {A B : Type 0} (o : Outcome A) (b : Outcome B) (a : A) (s : State) (why : Stop) → o ≡ ok a s → Stops o why → Stops b why
never o b a s (Failed error) e h = absurd (not_failed a s (error_number error) (sym e ∙ h))
never o b a s Limit e h = absurd (not_limit a s (sym e ∙ h))
never o b a s IllTyped e h = absurd (not_ill a s (sym e ∙ h))
never o b a s Memory e h = tt

-- what fails stops so, whatever it would give
failed_same : (e : ℕ) (why : Stop) → Stops {A = Unit {0}} (failed e) why → Stops {A = Tree} (failed e) why
failed_same e (Failed error) h = ap failed (number_in e (error_number error) h)
  where
    number_in : (a b : ℕ) → ◌≡◌ {A = Outcome (Unit {0})} (failed a) (failed b) → a ≡ b
    number_in a b h = cc h
failed_same e Limit h = absurd (cc h)
failed_same e IllTyped h = absurd (cc h)
failed_same e Memory h = tt

ill_same : (why : Stop) → Stops {A = Row} ill why → Stops {A = Tree} ill why
ill_same (Failed error) h = absurd (cc h)
ill_same Limit h = absurd (cc h)
ill_same IllTyped h = refl
ill_same Memory h = tt

pub same_state : {A : Type 0} (a b : A) (s t : State) → ok a s ≡ ok b t → s ≡ t
same_state a b s t e = cc e

test_passed : (tested : Outcome (Unit {0})) (whole : Outcome Tree) (s v : State) (p : Action Tree) → Told tested whole s p → tested ≡ ok tt v → (v ≡ s) × (whole ≡ p s)
test_passed tested whole s v p (passed e f) h = (same_state tt tt v s (sym h ∙ e), f)
test_passed tested whole s v p (refused error e f) h = absurd (not_failed tt v error (sym h ∙ e))

test_stops : (tested : Outcome (Unit {0})) (whole : Outcome Tree) (s : State) (p : Action Tree) (why : Stop) → Told tested whole s p → Stops tested why → Stops whole why
test_stops tested whole s p why (passed e f) h = never tested whole tt s why e h
test_stops tested whole s p why (refused error e f) h = stops_same whole (failed error) why f (failed_same error why (stops_same (failed error) tested why (sym e) h))

pub test_then : (l : ℕ) (is : Found → Type 0) (tested : Action (Unit {0})) (whole p : Found → Action Tree) (x y z : RunState) (u : Unit {0}) (r : Result code.Tree Stop)
    → ((f : Found) (s : State) → Told (tested s) (whole f s) s (p f)) → FindsAndCarriesOut no_value tested x y (Ok u) → Changes l is p y z r → Changes l is whole x z r
test_then l is tested whole p x y z u r told first second w ready f here known =
    let s = state_over w x in
    let v = state_over w y in
    let both = test_passed (tested s) (whole f s) s v (p f) (told f s) (first w ready) in
    does_same pure_tree (whole f) (p f) s (state_over w z) r both.1
    (subst (λ (q : State). Does pure_tree (p f) q (state_over w z) r) both.0 (second w (ready_same w x y both.0 ready) f (ap (at l) both.0 ∙ here) known))

pub test_refuses : (l : ℕ) (is : Found → Type 0) (tested : Action (Unit {0})) (whole p : Found → Action Tree) (x y z : RunState) (why : Stop)
    → ((f : Found) (s : State) → Told (tested s) (whole f s) s (p f)) → FindsAndCarriesOut {B = Unit {0}} no_value tested x y (Err why) → Changes l is whole x z (Err why)
test_refuses l is tested whole p x y z why told first w ready f here known = test_stops (tested (state_over w x)) (whole f (state_over w x)) (state_over w x) (p f) why (told f (state_over w x)) (first w ready)

-- ---- the node

pub found_here : {A : Type 0} (l : ℕ) (p : Found → Action A) (f : Found) (s : State) → at l s ≡ Some f → with_found l p s ≡ p f s
found_here l p f s e = ap (λ o. or_fail 113 o p s) e

-- the node with the label gets another row
abbrev pub with_parts : ℕ → (Row → Row) → Action (Unit {0})
with_parts l g = with_found l (λ f s. ok tt (with_node l f.tree.shape (g f.tree.parts) s))

pub became : (l : ℕ) (g : Row → Row) (shape : NodeShape) (x y : RunState) (u : Unit {0}) → FindsAndCarriesOut no_value (with_parts l g) x y (Ok u)
    → (w : List Account) → IsReady w x → (f : Found) → at l (state_over w x) ≡ Some f → f.tree.shape ≡ shape → becomes l shape (g f.tree.parts) (state_over w x) ≡ ok void_tree (state_over w y)
became l g shape x y u changed w ready f here is =
    let s = state_over w x in
    ap (λ k. ok void_tree (with_node l k (g f.tree.parts) s)) (sym is)
    ∙ ap (ok void_tree) (same_state tt tt (with_node l f.tree.shape (g f.tree.parts) s) (state_over w y) (sym (found_here l (λ f s. ok tt (with_node l f.tree.shape (g f.tree.parts) s)) f s here) ∙ changed w ready))

-- what is done with a node that is there isn't stopped but by want of memory
pub node_stops : {A B : Type 0} (view : B → A) (l : ℕ) (is : Found → Type 0) (p : Found → Action A) (a : Found → State → A) (t : Found → State → State) (whole : Found → Action Tree) (x y z : RunState) (why : Stop)
    → ((f : Found) (s : State) → p f s ≡ ok (a f s) (t f s)) → FindsAndCarriesOut view (with_found l p) x y (Err why) → Changes l is whole x z (Err why)
node_stops view l is p a t whole x y z why gives changed w ready f here known =
    let s = state_over w x in
    never (with_found l p s) (whole f s) (a f s) (t f s) why (found_here l p f s here ∙ gives f s) (changed w ready)

pub parts_stop : (l : ℕ) (is : Found → Type 0) (g : Row → Row) (whole : Found → Action Tree) (x y z : RunState) (why : Stop)
    → FindsAndCarriesOut {B = Unit {0}} no_value (with_parts l g) x y (Err why) → Changes l is whole x z (Err why)
parts_stop l is g whole x y z why changed =
    node_stops no_value l is (λ f s. ok tt (with_node l f.tree.shape (g f.tree.parts) s)) (λ f s. tt) (λ f s. with_node l f.tree.shape (g f.tree.parts) s) whole x y z why (λ f s. refl) changed

-- ---- room

roomy : {A : Type 0} (n : ℕ) (p : Action A) (s : State) → nat_le n most_elements ≡ true → room n p s ≡ p s
roomy n p s e = ap (λ (b : Bool). require 123 b p s) e

crowded : {A : Type 0} (n : ℕ) (p : Action A) (s : State) → nat_le n most_elements ≡ false → room n p s ≡ failed 123
crowded n p s e = ap (λ (b : Bool). require 123 b p s) e

pub array_changed : (l : ℕ) (type : PureType) (n : ℕ) (k : ℕ → ℕ) (g : Row → Row) (x y : RunState) (changed : Result (Unit {0}) Stop) (r : Result code.Tree Stop) → nat_le (k n) most_elements ≡ true → Voids changed r
    → FindsAndCarriesOut no_value (with_parts l g) x y changed → ChangesArray l type n (λ parts. room (k (count_places parts)) (becomes l (array type) (g parts))) x y r
array_changed l type n k g x y (Ok u) (Ok t) fits is changed w ready f here known =
    let s = state_over w x in
    roomy (k (count_places f.tree.parts)) (becomes l (array type) (g f.tree.parts)) s (ap (λ c. nat_le (k c) most_elements) (sym known.1) ∙ fits)
    ∙ became l g (array type) x y u changed w ready f here known.0
    ∙ ap (λ v. ok v (state_over w y)) (sym is)
array_changed l type n k g x y (Ok u) (Err why) fits is changed w ready f here known = absurd is
array_changed l type n k g x y (Err why) (Ok t) fits is changed w ready f here known = absurd is
array_changed l type n k g x y (Err why) (Err other) fits is changed w ready f here known =
    subst (λ (z : Stop). Stops (room (k (count_places f.tree.parts)) (becomes l (array type) (g f.tree.parts)) (state_over w x)) z) (sym is)
    (parts_stop l (IsArray type n) g (λ h. room (k (count_places h.tree.parts)) (becomes l (array type) (g h.tree.parts))) x y y why changed w ready f here known)

pub array_crowded : (n : ℕ) (k : ℕ → ℕ) (p : Row → Action Tree) (parts : Row) (s : State) → nat_le (k n) most_elements ≡ false → n ≡ count_places parts → room (k (count_places parts)) (p parts) s ≡ failed 123
array_crowded n k p parts s fits known = crowded (k (count_places parts)) (p parts) s (ap (λ c. nat_le (k c) most_elements) (sym known) ∙ fits)

-- ---- what is taken out

slot_there : (i : ℕ) (r : Row) → suc i ≤ count_places r → slot i r ≡ out → ⊥
slot_there i stop inside e = absurd (omega (arith, inside))
slot_there zero (gap r) inside e = cc e
slot_there zero (node l n s k r) inside e = cc e
slot_there (suc i) (gap r) inside e = slot_there i r (omega (arith, inside)) e
slot_there (suc i) (node l n s k r) inside e = slot_there i r (omega (arith, inside)) e

slot_nowhere : (i : ℕ) (r : Row) → count_places r ≤ i → slot i r ≡ out
slot_nowhere i stop outside = refl
slot_nowhere zero (gap r) outside = absurd (omega (arith, outside))
slot_nowhere zero (node l n s k r) outside = absurd (omega (arith, outside))
slot_nowhere (suc i) (gap r) outside = slot_nowhere i r (omega (arith, outside))
slot_nowhere (suc i) (node l n s k r) outside = slot_nowhere i r (omega (arith, outside))

pub cut_nowhere : (l : ℕ) (type : PureType) (i : ℕ) (parts : Row) (s : State) → count_places parts ≤ i → array_cut l type parts i (slot i parts) s ≡ failed 104
cut_nowhere l type i parts s outside = ap (λ o. array_cut l type parts i o s) (slot_nowhere i parts outside)

pub value_in : {A : Type 0} (a b : A) (s t : State) → ok a s ≡ ok b t → a ≡ b
value_in a b s t e = cc e

cut_some : (l : ℕ) (type : PureType) (i : ℕ) (parts : Row) (o : Slot) (s v : State) (t : Tree) → bare_in o ≡ Some t → with_node l (array type) (rows.cut i parts) s ≡ v → array_cut l type parts i o s ≡ ok t v
cut_some l type i parts (full u) s v t e f = ap (λ z. ok (bare_tree u) z) f ∙ ap (λ z. ok z v) (cc e)
cut_some l type i parts free s v t e f = absurd (cc e)
cut_some l type i parts out s v t e f = absurd (cc e)

cut_none : (l : ℕ) (type : PureType) (i : ℕ) (parts : Row) (o : Slot) (s : State) → bare_in o ≡ None → (o ≡ out → ⊥) → array_cut l type parts i o s ≡ failed 113
cut_none l type i parts (full u) s e f = absurd (cc e)
cut_none l type i parts free s e f = refl
cut_none l type i parts out s e f = absurd (f refl)

-- the place goes, and what stood there is given
abbrev pub taking : ℕ → (NodeShape → NodeShape) → (Row → Row) → ℕ → Action (Option Tree)
taking l h g i = with_found l (λ f s. ok (bare_in (slot i f.tree.parts)) (with_node l (h f.tree.shape) (g f.tree.parts) s))

pub array_taken : (l : ℕ) (type : PureType) (n i : ℕ) (x y : RunState) (taken : Result (Option code.Tree) Stop) → suc i ≤ n
    → FindsAndCarriesOut (λ o. option_map pure_tree o) (taking l (λ z. z) (rows.cut i) i) x y taken → ChangesArray l type n (λ parts. array_cut l type parts i (slot i parts)) x y (taken_as taken)
array_taken l type n i x y (Ok (Some t)) inside changed w ready f here known =
    let s = state_over w x in
    let e = sym (found_here l (λ f s. ok (bare_in (slot i f.tree.parts)) (with_node l f.tree.shape (rows.cut i f.tree.parts) s)) f s here) ∙ changed w ready in
    cut_some l type i f.tree.parts (slot i f.tree.parts) s (state_over w y) (pure_tree t) (value_in (bare_in (slot i f.tree.parts)) (Some (pure_tree t)) (with_node l f.tree.shape (rows.cut i f.tree.parts) s) (state_over w y) e)
    (ap (λ k. with_node l k (rows.cut i f.tree.parts) s) (sym known.0) ∙ same_state (bare_in (slot i f.tree.parts)) (Some (pure_tree t)) (with_node l f.tree.shape (rows.cut i f.tree.parts) s) (state_over w y) e)
array_taken l type n i x y (Ok None) inside changed w ready f here known =
    let s = state_over w x in
    let e = sym (found_here l (λ f s. ok (bare_in (slot i f.tree.parts)) (with_node l f.tree.shape (rows.cut i f.tree.parts) s)) f s here) ∙ changed w ready in
    cut_none l type i f.tree.parts (slot i f.tree.parts) s (value_in (bare_in (slot i f.tree.parts)) None (with_node l f.tree.shape (rows.cut i f.tree.parts) s) (state_over w y) e)
    (slot_there i f.tree.parts (subst (λ (c : ℕ). suc i ≤ c) known.1 inside))
array_taken l type n i x y (Err why) inside changed w ready f here known =
    node_stops (λ o. option_map pure_tree o) l (IsArray type n) (λ f s. ok (bare_in (slot i f.tree.parts)) (with_node l f.tree.shape (rows.cut i f.tree.parts) s)) (λ f s. bare_in (slot i f.tree.parts))
    (λ f s. with_node l f.tree.shape (rows.cut i f.tree.parts) s) (λ f. array_cut l type f.tree.parts i (slot i f.tree.parts)) x y y why (λ f s. refl) changed w ready f here known

pub removed_nowhere : (l : ℕ) (type : PureType) (z : ℤ) (n : ℕ) (parts : Row) (s : State) → IsNoPlace z n → n ≡ count_places parts → array_remove_at l type parts z s ≡ failed 104
removed_nowhere l type (negsuc i) n parts s e known = refl
removed_nowhere l type (pos i) n parts s e known = cut_nowhere l type i parts s (subst (λ (c : ℕ). c ≤ i) known (omega (arith, e)))

pub negative_is_none : (z : ℤ) (n : ℕ) → IsNegative z → IsNoPlace z n
negative_is_none (pos i) n h = absurd h
negative_is_none (negsuc i) n h = tt

pub above_is_none : (z : ℤ) (i n : ℕ) → z ≡ pos i → suc n ≤ i → IsNoPlace z n
above_is_none z i n e h = subst (λ (y : ℤ). IsNoPlace y n) (sym e) h

-- ---- elements of another array

pub elements_then : (l : ℕ) (is : Found → Type 0) (o : Option Row) (q : Row) (p : Row → Found → Action Tree) (x z : RunState) (r : Result code.Tree Stop) → ((s : State) → with_some o (λ a. give a) s ≡ ok q s)
    → Changes l is (p q) x z r → Changes l is (λ f. with_some o (λ a. p a f)) x z r
elements_then l is None q p x z r told change w ready f here known = absurd (cc (told (state_over w x)))
elements_then l is (Some a) q p x z r told change w ready f here known =
    subst (λ (b : Row). Does pure_tree (p b f) (state_over w x) (state_over w z) r) (sym (value_in a q (state_over w x) (state_over w x) (told (state_over w x)))) (change w ready f here known)

pub no_elements : (l : ℕ) (is : Found → Type 0) (o : Option Row) (p : Row → Found → Action Tree) (x z : RunState) (why : Stop) → ((s : State) → Stops (with_some o (λ a. give a) s) why)
    → Changes l is (λ f. with_some o (λ a. p a f)) x z (Err why)
no_elements l is None p x z why told w ready f here known = ill_same why (told (state_over w x))
no_elements l is (Some a) p x z why told w ready f here known = never (ok a (state_over w x)) (p a f (state_over w x)) a (state_over w x) why refl (told (state_over w x))

-- ---- a node that was found

pub found_then : (l : ℕ) (is : Found → Type 0) (p : Found → Action Tree) (x y z : RunState) (u : Unit {0}) (r : Result code.Tree Stop) → FindsAndCarriesOut no_value (with_found l (λ f. done)) x y (Ok u)
    → Changes l is p y z r → Changes l is p x z r
found_then l is p x y z u r first h w ready f here known =
    let same = same_state tt tt (state_over w y) (state_over w x) (sym (first w ready) ∙ found_here l (λ f. done) f (state_over w x) here) in
    subst (λ (q : State). Does pure_tree (p f) q (state_over w z) r) same (h w (ready_same w x y same ready) f (ap (at l) same ∙ here) known)

pub found_stops : (l : ℕ) (is : Found → Type 0) (p : Found → Action Tree) (x y z : RunState) (why : Stop) → FindsAndCarriesOut {B = Unit {0}} no_value (with_found l (λ f. done)) x y (Err why) → Changes l is p x z (Err why)
found_stops l is p x y z why h w ready f here known = never (with_found l (λ f. done) (state_over w x)) (p f (state_over w x)) tt (state_over w x) why (found_here l (λ f. done) f (state_over w x) here) (h w ready)

-- the parts of a node are what was found in it
pub parts_given : (l : ℕ) (is : Found → Type 0) (p : Row → Action Tree) (q : Row) (n : Found) (x : RunState) (r : Result code.Tree Stop) → ((w : List Account) → IsReady w x → at l (state_over w x) ≡ Some n) → q ≡ n.tree.parts
    → ((s : State) → Does pure_tree (p q) s s r) → Changes l is (λ f. p f.tree.parts) x x r
parts_given l is p q n x r node_is e h w ready f here known =
    subst (λ (k : Row). Does pure_tree (p k) (state_over w x) (state_over w x) r) (e ∙ ap (λ g. g.tree.parts) (some_in n f (sym (node_is w ready) ∙ here))) (h (state_over w x))
  where
    some_in : (a b : Found) → Some a ≡ Some b → a ≡ b
    some_in a b h = cc h

-- where there is room
pub room_then : (l : ℕ) (type : PureType) (n : ℕ) (k : ℕ → ℕ) (p : Row → Action Tree) (x z : RunState) (r : Result code.Tree Stop) → nat_le (k n) most_elements ≡ true
    → ChangesArray l type n p x z r → ChangesArray l type n (λ parts. room (k (count_places parts)) (p parts)) x z r
room_then l type n k p x z r fits h w ready f here known =
    does_same pure_tree (room (k (count_places f.tree.parts)) (p f.tree.parts)) (p f.tree.parts) (state_over w x) (state_over w z) r
    (roomy (k (count_places f.tree.parts)) (p f.tree.parts) (state_over w x) (ap (λ c. nat_le (k c) most_elements) (sym known.1) ∙ fits)) (h w ready f here known)

-- with what is known to be there
pub with_this_then : {A : Type 0} (l : ℕ) (is : Found → Type 0) (o : Option A) (a : A) (p : A → Found → Action Tree) (x z : RunState) (r : Result code.Tree Stop) → Some a ≡ o → Changes l is (p a) x z r
    → Changes l is (λ f. with_some o (λ b. p b f)) x z r
with_this_then {A} l is o a p x z r e h = subst (λ (q : Option A). Changes l is (λ f. with_some q (λ b. p b f)) x z r) e h
