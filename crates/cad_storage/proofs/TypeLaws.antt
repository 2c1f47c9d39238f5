-- Own types of what stands in a place of storage.
use Rattle.std.proofs.Common.{◌≡◌, ℕ, Bool, true, false, Option, Some, None, refl, sym, ap, ◌∙◌}
use Rattle.std.proofs.lemmas.Bool.{false≢true}
use Rattle.std.specs.Option.{is_some}
use Rattle.cad_casts.proofs.Settles.{settled_first, settled_none, settled_some, with_type_then}
use Rattle.cad_casts.specs.Settled.{settled}
use Rattle.cad_evaluation.specs.Casts.{with_type}
use Rattle.cad_evaluation.specs.Storage.{is_stored_as, of_stored_type, type_of_stored}
use Rattle.cad_outcomes.proofs.Steps.{stops_on, stops_same}
use Rattle.cad_outcomes.specs.Outcomes.{Stops}
use Rattle.cad_outcomes.specs.declared.stop.Stop.{Stop}
use Rattle.cad_storage.specs.Code.{is_of, passed, settled_slot, slot_label, slot_type, there_as, told, typed}
use Rattle.cad_syntax.specs.Types.{PureType}
use Rattle.cad_types.specs.Below.{below}
use Rattle.cad_world.specs.Declared.{declarations}
use Rattle.cad_world.specs.Labels.{at}
use Rattle.cad_world.specs.Locations.{with_found}
use Rattle.cad_world.specs.OwnTypes.{own_type}
use Rattle.cad_world.specs.Rows.{NodeShape, plain, link, array, dictionary, composite, Tree, Slot, out, free, full, Found}
use Rattle.cad_world.specs.State.{State, Outcome, ok, failed, limit, ill, bind, Action, ◌>>=◌, done, give, or_fail, require, choose}
use Rattle.cad_world.specs.Trees.{nil_tree}

-- ---- the node to which it refers is found first

pub label_settles : (slot : Slot) (l : ℕ) (s : State) → Some l ≡ slot_label slot → settled_slot slot s ≡ with_found l (λ f. done) s
label_settles (full t) l s e = settled_some t.shape l s e
label_settles out l s e = absurd (false≢true (sym (ap is_some e)))
label_settles free l s e = absurd (false≢true (sym (ap is_some e)))

abbrev state_or : {A : Type 0} → State → Outcome A → State
state_or s (ok a u) = u
state_or s _ = s

found_stays : (o : Option Found) (s : State) → state_or s (or_fail 113 o (λ f. done) s) ≡ s
found_stays None s = refl
found_stays (Some f) s = refl

shape_stays : (shape : NodeShape) (s : State) → state_or s (settled shape s) ≡ s
shape_stays (plain v) s = refl
shape_stays (link a l n) s = found_stays (at l s) s
shape_stays (array t) s = refl
shape_stays (dictionary k t ks) s = refl
shape_stays (composite id i ns) s = refl

slot_stays : (slot : Slot) (s : State) → state_or s (settled_slot slot s) ≡ s
slot_stays (full t) s = shape_stays t.shape s
slot_stays out s = refl
slot_stays free s = refl

-- the state stays as it is
pub settling_stays : (slot : Slot) (s u : State) → settled_slot slot s ≡ ok tt u → u ≡ s
settling_stays slot s u e = sym (ap (state_or s) e) ∙ slot_stays slot s

-- a value whose type isn't told
pub own_stops : (t : Tree) (s : State) (stop : Stop) → Stops (with_type t (λ own. give own) s) stop → Stops (slot_type (full t) s) stop
own_stops t s stop h =
    stops_same (slot_type (full t) s) (bind (with_type t (λ own. give own) s) (λ own. give (Some own))) stop (with_type_then t (λ own. give (Some own)) s)
    (stops_on (with_type t (λ own. give own) s) (λ own. give (Some own)) stop h)

-- nor that of a reference whose node is gone
pub settling_stops : (slot : Slot) (s : State) (stop : Stop) → Stops (settled_slot slot s) stop → Stops (slot_type slot s) stop
settling_stops (full t) s stop h =
    let own = with_type t (λ own. give own) in
    own_stops t s stop (stops_same (own s) (bind (settled t.shape s) (λ _. own)) stop (settled_first t s) (stops_on (settled t.shape s) (λ _. own) stop h))
settling_stops out s stop h = stops_on (done s) (λ _. slot_type out) stop h
settling_stops free s stop h = stops_on (done s) (λ _. slot_type free) stop h

-- ---- what is done with the type

or_fail_some : {A : Type 0} (o : Option PureType) (f : Option PureType → Action A) (s : State) → or_fail 113 o (λ own. f (Some own)) s ≡ (or_fail 113 o (λ own. give (Some own)) >>= f) s
or_fail_some None f s = refl
or_fail_some (Some own) f s = refl

typed_some : {A : Type 0} (t : Tree) (f : Option PureType → Action A) (s : State) → with_type t (λ own. f (Some own)) s ≡ (slot_type (full t) >>= f) s
typed_some t f s = or_fail_some (own_type s t) f s

pub type_by_own : (slot : Slot) (s : State) → type_of_stored slot s ≡ (slot_type slot >>= (λ o. give (told o))) s
type_by_own (full t) s = typed_some t (λ o. give (told o)) s
type_by_own out s = refl
type_by_own free s = refl

pub check_by_own : (type : PureType) (slot : Slot) (s : State) → is_stored_as type slot s ≡ (slot_type slot >>= (λ o. is_of o type)) s
check_by_own type (full t) s = typed_some t (λ o. is_of o type) s
check_by_own type out s = refl
check_by_own type free s = refl

pub there_by_own : (type : PureType) (slot : Slot) (s : State) → there_as type slot s ≡ (slot_type slot >>= (λ o. passed o type)) s
there_by_own type (full t) s = typed_some t (λ o. passed o type) s
there_by_own type out s = refl
there_by_own type free s = refl

-- ---- what is done with what has a type

required : {A : Type 0} (b : Bool) (p q : Action A) (s : State) → require 112 b p s ≡ bind (require 112 b (give true) s) (λ x. choose x p q)
required true p q s = refl
required false p q s = refl

own_required : {A : Type 0} (o : Option PureType) (test : State → PureType → Bool) (p q : Action A) (s : State)
    → or_fail 113 o (λ own s'. require 112 (test s' own) p s') s ≡ bind (or_fail 113 o (λ own s'. require 112 (test s' own) (give true) s') s) (λ x. choose x p q)
own_required None test p q s = refl
own_required (Some own) test p q s = required (test s own) p q s

pub typed_by_test : (type : PureType) (p : Action Tree) (slot : Slot) (s : State) → typed type (λ t. p) slot s ≡ (there_as type slot >>= (λ x. choose x p (give nil_tree))) s
typed_by_test type p (full t) s = own_required (own_type s t) (λ s' own. below (declarations s') own type) p (give nil_tree) s
typed_by_test type p out s = refl
typed_by_test type p free s = refl

require_same : {A : Type 0} (b : Bool) (p q : Action A) (s : State) → p s ≡ q s → require 112 b p s ≡ require 112 b q s
require_same true p q s e = e
require_same false p q s e = refl

own_same : {A : Type 0} (o : Option PureType) (test : State → PureType → Bool) (p q : Action A) (s : State) → p s ≡ q s
    → or_fail 113 o (λ own s'. require 112 (test s' own) p s') s ≡ or_fail 113 o (λ own s'. require 112 (test s' own) q s') s
own_same None test p q s e = refl
own_same (Some own) test p q s e = require_same (test s own) p q s e

-- of what has the type the same is done
pub of_type_same : (type : PureType) (t : Tree) (p q : Action Tree) (s : State) → p s ≡ q s → of_stored_type type t p s ≡ of_stored_type type t q s
of_type_same type t p q s e = own_same (own_type s t) (λ s' own. below (declarations s') own type) p q s e
