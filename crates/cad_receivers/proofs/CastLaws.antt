-- A reference to storage is cast by the type of what it leads to.
use Rattle.std.proofs.Common.{◌≡◌, ℕ, false, Option, Some, None, refl, sym, ap, ◌∙◌, subst}
use Rattle.std.proofs.lemmas.Bool.{false≢true}
use Rattle.std.specs.Option.{is_some}
use Rattle.cad_casts.proofs.CastLaws.{cast_by}
use Rattle.cad_casts.proofs.Settles.{with_type_then}
use Rattle.cad_evaluation.specs.Casts.{with_type, stored_type as with_stored, with_cast_target, with_cast_value, with_cast_shape, cast}
use Rattle.cad_grammar.specs.declared.expression.CastKind.{CastKind}
use Rattle.cad_labels.proofs.Forms.{keeps_give, keeps_or_fail}
use Rattle.cad_labels.proofs.Keeping.{keeps_bind}
use Rattle.cad_labels.proofs.Places.{looks_keep}
use Rattle.cad_labels.specs.Laws.{Keeps, AnyOne}
use Rattle.cad_outcomes.proofs.Steps.{stops_on, stops_same}
use Rattle.cad_outcomes.specs.Outcomes.{Stops}
use Rattle.cad_outcomes.specs.declared.stop.Stop.{Stop}
use Rattle.cad_receivers.specs.Code.Casts.{rights_to, rights_of_value, stored_rights, type_led, type_by, stored_type, cast_of_type}
use Rattle.cad_receivers.specs.Views.{at_spot}
use Rattle.cad_syntax.specs.Types.{PureType, reference}
use Rattle.cad_syntax.specs.declared.address.Address.{Address}
use Rattle.cad_syntax.specs.declared.text.Name.{Name}
use Rattle.cad_syntax.specs.declared.types.Authorization.{Authorization}
use Rattle.cad_types.specs.Optionals.{optionals}
use Rattle.cad_values.specs.Values.{PureValue}
use Rattle.cad_values.specs.Values as v
use Rattle.cad_values.specs.declared.value.Target.{Target}
use Rattle.cad_values.specs.declared.value.Target.TheVariants as to
use Rattle.cad_world.specs.OwnTypes.{own_type}
use Rattle.cad_world.specs.Receivers as r
use Rattle.cad_world.specs.Rows.{NodeShape, plain, link, array, dictionary, composite, Tree}
use Rattle.cad_world.specs.State.{State, Outcome, ok, failed, limit, ill, bind, Action, ◌>>=◌, give, or_fail}

-- ---- references to storage

pub no_rights : (a : Authorization) (target : Target) → ((address : Address) (n : Name) → ¬ (target ≡ to.Stored address n)) → rights_to a target ≡ None
no_rights a (to.Stored address n) other = absurd (other address n refl)
no_rights a (to.Node l) other = refl
no_rights a (to.Account address) other = refl
no_rights a (to.Controller address n) other = refl

-- ---- the type first

or_fail_maps : (o : Option PureType) (g : PureType → PureType) (f : PureType → Action Tree) (s : State)
    → or_fail 113 o (λ own. f (g own)) s ≡ bind (or_fail 113 o (λ own. give (g own)) s) f
or_fail_maps None g f s = refl
or_fail_maps (Some own) g f s = refl

spot_first : (a : Authorization) (t : Tree) (f : PureType → Action Tree) (o : Outcome r.Spot)
    → bind o (λ spot. with_stored t a spot f) ≡ bind (bind o (type_led a t.optionals)) f
spot_first a t f (ok spot s) = or_fail_maps (own_type s spot.tree) (λ own. optionals t.optionals (reference a own)) f s
spot_first a t f (failed e) = refl
spot_first a t f limit = refl
spot_first a t f ill = refl

some_is : {a b : Authorization} → Some a ≡ Some b → a ≡ b
some_is {a = a} e = ap (some_or a) e
  where
    some_or : Authorization → Option Authorization → Authorization
    some_or d None = d
    some_or d (Some x) = x

target_decides : (t : Tree) (b a : Authorization) (type : PureType) (target : Target) (f : PureType → Action Tree) (s : State) → rights_to b target ≡ Some a
    → with_cast_target t (v.reference b type target) b target f s ≡ bind (bind (r.deref (plain (v.reference b type target)) s) (type_led a t.optionals)) f
target_decides t b a type (to.Stored address n) f s e =
    let o = r.deref (plain (v.reference b type (to.Stored address n))) s in
    spot_first b t f o ∙ ap (λ (c : Authorization). bind (bind o (type_led c t.optionals)) f) (some_is e)
target_decides t b a type (to.Node l) f s e = absurd (false≢true (ap is_some e))
target_decides t b a type (to.Account address) f s e = absurd (false≢true (ap is_some e))
target_decides t b a type (to.Controller address n) f s e = absurd (false≢true (ap is_some e))

value_decides : (t : Tree) (x : PureValue) (a : Authorization) (f : PureType → Action Tree) (s : State) → rights_of_value x ≡ Some a
    → with_cast_value t x f s ≡ bind (bind (r.deref (plain x) s) (type_led a t.optionals)) f
value_decides t (v.reference b type target) a f s e = target_decides t b a type target f s e
value_decides t x a f s e = absurd (false≢true (ap is_some e))

shape_decides : (t : Tree) (shape : NodeShape) (a : Authorization) (f : PureType → Action Tree) (s : State) → stored_rights shape ≡ Some a
    → with_cast_shape t shape f s ≡ bind (bind (r.deref shape s) (type_led a t.optionals)) f
shape_decides t (plain x) a f s e = value_decides t x a f s e
shape_decides t (link b l n) a f s e = absurd (false≢true (ap is_some e))
shape_decides t (array type) a f s e = absurd (false≢true (ap is_some e))
shape_decides t (dictionary k type ks) a f s e = absurd (false≢true (ap is_some e))
shape_decides t (composite id i names) a f s e = absurd (false≢true (ap is_some e))

own_target : (t : Tree) (b : Authorization) (type : PureType) (target : Target) (f : PureType → Action Tree) → rights_to b target ≡ None
    → with_cast_target t (v.reference b type target) b target f ≡ with_type t f
own_target t b type (to.Stored address n) f e = absurd (false≢true (sym (ap is_some e)))
own_target t b type (to.Node l) f e = refl
own_target t b type (to.Account address) f e = refl
own_target t b type (to.Controller address n) f e = refl

own_value : (t : Tree) (x : PureValue) (f : PureType → Action Tree) → rights_of_value x ≡ None → with_cast_value t x f ≡ with_type t f
own_value t (v.reference b type target) f e = own_target t b type target f e
own_value t x f e = refl

-- of any other value the own type counts
own_shape : (t : Tree) (shape : NodeShape) (f : PureType → Action Tree) → stored_rights shape ≡ None → with_cast_shape t shape f ≡ with_type t f
own_shape t (plain x) f e = own_value t x f e
own_shape t (link b l n) f e = refl
own_shape t (array type) f e = refl
own_shape t (dictionary k type ks) f e = refl
own_shape t (composite id i names) f e = refl

bound_some : {A B : Type 0} (o : Outcome A) (f : Option A → Action B) → bind (bind o (λ a. give (Some a))) f ≡ bind o (λ a. f (Some a))
bound_some (ok a s) f = refl
bound_some (failed e) f = refl
bound_some limit f = refl
bound_some ill f = refl

cast_by_rights : (kind : CastKind) (type : PureType) (t : Tree) (o : Option Authorization) (s : State) → stored_rights t.shape ≡ o
    → cast kind type t s ≡ (type_by o t >>= cast_of_type kind type t) s
cast_by_rights kind type t None s e =
    cast_by kind type t (with_type t (λ own. give own)) (λ f u. ap (λ (p : Action Tree). p u) (own_shape t t.shape f e) ∙ with_type_then t f u) s
cast_by_rights kind type t (Some a) s e =
    cast_by kind type t (at_spot (r.through t.shape) (type_led a t.optionals)) (λ f u. shape_decides t t.shape a f u e) s
    ∙ sym (bound_some (at_spot (r.through t.shape) (type_led a t.optionals) s) (cast_of_type kind type t))

-- the type by which a value is cast comes first
pub cast_in_steps : (kind : CastKind) (type : PureType) (t : Tree) (s : State) → cast kind type t s ≡ (stored_type t >>= cast_of_type kind type t) s
cast_in_steps kind type t s = cast_by_rights kind type t (stored_rights t.shape) s refl

pub type_stops : (t : Tree) (shape : NodeShape) (a : Authorization) (n : ℕ) (s : State) (why : Stop) → shape ≡ t.shape → n ≡ t.optionals → stored_rights t.shape ≡ Some a
    → Stops (at_spot (r.through shape) (type_led a n) s) why → Stops (stored_type t s) why
type_stops t shape a n s why same deep e h =
    let here = subst (λ (m : ℕ). Stops (at_spot (r.through t.shape) (type_led a m) s) why) deep (subst (λ (k : NodeShape). Stops (at_spot (r.through k) (type_led a n) s) why) same h) in
    stops_same (stored_type t s) (type_by (Some a) t s) why (ap (λ o. type_by o t s) e) (stops_on (at_spot (r.through t.shape) (type_led a t.optionals) s) (λ own. give (Some own)) why here)

-- ---- labels

led_keeps : (a : Authorization) (n : ℕ) (spot : r.Spot) → Keeps AnyOne (type_led a n spot)
led_keeps a n spot = λ s once. keeps_or_fail AnyOne 113 (own_type s spot.tree) (λ own. give (optionals n (reference a own))) (λ own. keeps_give AnyOne (optionals n (reference a own)) tt) s once

pub type_keeps : (x : r.Receiver) (a : Authorization) (n : ℕ) → Keeps AnyOne (at_spot x (type_led a n))
type_keeps x a n = keeps_bind AnyOne AnyOne (r.look_at x) (type_led a n) (looks_keep x) (λ spot h. led_keeps a n spot)

by_keeps : (o : Option Authorization) (t : Tree) → Keeps AnyOne (type_by o t)
by_keeps None t = keeps_give {A = Option PureType} AnyOne None tt
by_keeps (Some a) t = keeps_bind AnyOne AnyOne (at_spot (r.through t.shape) (type_led a t.optionals)) (λ own. give (Some own)) (type_keeps (r.through t.shape) a t.optionals)
    (λ own h. keeps_give AnyOne (Some own) tt)

pub stored_keeps : (t : Tree) → Keeps AnyOne (stored_type t)
stored_keeps t = by_keeps (stored_rights t.shape) t

-- ---- told by what is looked at

spot_then : (a : Authorization) (n : ℕ) (o : Option PureType) (s : State)
    → or_fail 113 o (λ own. give (optionals n (reference a own))) s ≡ (or_fail 113 o (λ own. give own) >>= (λ own. give (optionals n (reference a own)))) s
spot_then a n None s = refl
spot_then a n (Some own) s = refl

pub led_in_steps : (a : Authorization) (n : ℕ) (spot : r.Spot) (s : State)
    → type_led a n spot s ≡ (with_type spot.tree (λ own. give own) >>= (λ own. give (optionals n (reference a own)))) s
led_in_steps a n spot s = spot_then a n (own_type s spot.tree) s
