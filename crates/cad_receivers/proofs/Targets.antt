-- Nodes, accounts and controllers, settled and looked at.
use Rattle.std.proofs.Common.{◌≡◌, ℕ, Bool, true, false, Option, Some, None, refl, sym, ap, ◌∙◌, subst}
use Rattle.std.specs.Option.{is_some}
use Rattle.std.specs.Prelude.{Ok, Err}
use Rattle.cad_outcomes.proofs.Steps.{stops_on, stops_same}
use Rattle.cad_outcomes.specs.Outcomes.{no_value}
use Rattle.cad_outcomes.specs.declared.stop.Stop.{Stop}
use Rattle.cad_receivers.specs.Settled.{settled_shape, settled_target}
use Rattle.cad_receivers.specs.Views.{settled_of}
use Rattle.cad_receivers.specs.declared.receivers.Settled.{Settled}
use Rattle.cad_state.specs.Views.{state_over, FindsAndCarriesOut}
use Rattle.cad_state.specs.declared.state.RunState.{RunState}
use Rattle.cad_syntax.specs.Types.{PureType}
use Rattle.cad_syntax.specs.declared.address.Address.{Address}
use Rattle.cad_syntax.specs.declared.types.Authorization.{Authorization}
use Rattle.cad_values.specs.Values as v
use Rattle.cad_values.specs.declared.value.Target.{Target}
use Rattle.cad_values.specs.declared.value.Target.TheVariants as to
use Rattle.cad_world.specs.Labels.{at}
use Rattle.cad_world.specs.Locations.{with_found}
use Rattle.cad_world.specs.OwnTypes.{controller_at}
use Rattle.cad_world.specs.Receivers as r
use Rattle.cad_world.specs.Rows.{NodeShape, plain, link, stop, Found}
use Rattle.cad_world.specs.State.{State, Account, ok, failed, ill, bind, ◌>>◌, done, give, require, or_fail}

-- ---- nodes

found_first : (rights : Option Authorization) (l n : ℕ) (x : r.Receiver) (o : Option Found) (s : State)
    → bind (or_fail 113 o (λ f. give {A = r.Spot} (record { rights = rights; label = Some l; tree = record (f.tree) { optionals = n } })) s) (λ spot. give x)
    ≡ bind (or_fail 113 o (λ f. done) s) (λ _. give x)
found_first rights l n x (Some f) s = refl
found_first rights l n x None s = refl

-- a node that is there is settled to itself
pub node_settles : (rights : Option Authorization) (l n : ℕ) (x : r.Receiver) (one : Settled) (a b : RunState) → settled_of one ≡ x
    → FindsAndCarriesOut {B = Unit {0}} no_value (with_found l (λ f. done)) a b (Ok tt) → FindsAndCarriesOut settled_of (r.spot_at rights l n >> give x) a b (Ok one)
node_settles rights l n x one a b is h w ready =
    found_first rights l n x (at l (state_over w a)) (state_over w a) ∙ ap (λ o. bind o (λ _. give x)) (h w ready) ∙ ap (λ (y : r.Receiver). ok y (state_over w b)) (sym is)

pub node_stops : (rights : Option Authorization) (l n : ℕ) (x : r.Receiver) (a b : RunState) (why : Stop)
    → FindsAndCarriesOut {B = Unit {0}} no_value (with_found l (λ f. done)) a b (Err why) → FindsAndCarriesOut {B = Settled} settled_of (r.spot_at rights l n >> give x) a b (Err why)
node_stops rights l n x a b why h w ready =
    stops_same (bind (r.spot_at rights l n (state_over w a)) (λ _. give x)) (bind (with_found l (λ f. done) (state_over w a)) (λ _. give x)) why
    (found_first rights l n x (at l (state_over w a)) (state_over w a)) (stops_on (with_found l (λ f. done) (state_over w a)) (λ _. give x) why (h w ready))

-- a reference to a node
pub link_settles : (shape : NodeShape) (rights : Authorization) (l n : ℕ) (one : Settled) (a b : RunState) → shape ≡ link rights l n → settled_of one ≡ r.through shape
    → FindsAndCarriesOut {B = Unit {0}} no_value (with_found l (λ f. done)) a b (Ok tt) → FindsAndCarriesOut settled_of (settled_shape shape) a b (Ok one)
link_settles shape rights l n one a b is e h =
    subst (λ (k : NodeShape). FindsAndCarriesOut settled_of (settled_shape k) a b (Ok one)) (sym is)
    (node_settles (Some rights) l n (r.through (link rights l n)) one a b (e ∙ ap r.through is) h)

pub link_stops : (shape : NodeShape) (rights : Authorization) (l n : ℕ) (a b : RunState) (why : Stop) → shape ≡ link rights l n
    → FindsAndCarriesOut {B = Unit {0}} no_value (with_found l (λ f. done)) a b (Err why) → FindsAndCarriesOut {B = Settled} settled_of (settled_shape shape) a b (Err why)
link_stops shape rights l n a b why is h =
    subst (λ (k : NodeShape). FindsAndCarriesOut {B = Settled} settled_of (settled_shape k) a b (Err why)) (sym is)
    (node_stops (Some rights) l n (r.through (link rights l n)) a b why h)

-- ---- what is the reference itself

abbrev spot_of_reference : Authorization → NodeShape → r.Spot
spot_of_reference a shape = record { rights = Some a; label = None; tree = record { optionals = 0; shape = shape; parts = stop } }

by_account : (a : Authorization) (type : PureType) (target : Target) (address : Address) (s : State) → target ≡ to.Account address
    → r.spot_by a type (v.reference a type target) target s ≡ ok (spot_of_reference a (plain (v.reference a type target))) s
by_account a type target address s is =
    subst (λ (t : Target). r.spot_by a type (v.reference a type t) t s ≡ ok (spot_of_reference a (plain (v.reference a type t))) s) (sym is) refl

required : {A : Type 0} (b : Bool) (a : A) (s : State) → b ≡ true → require 113 b (give a) s ≡ ok a s
required b a s e = ap (λ x. require 113 x (give a) s) e

refused : {A : Type 0} (b : Bool) (a : A) (s : State) → b ≡ false → require 113 b (give a) s ≡ failed 113
refused b a s e = ap (λ x. require 113 x (give a) s) e

by_controller : (a : Authorization) (type : PureType) (target : Target) (address : Address) (n : ℕ) (s : State) → target ≡ to.Controller address n
    → is_some (controller_at s address.0 n) ≡ true
    → r.spot_by a type (v.reference a type target) target s ≡ ok (spot_of_reference a (plain (v.reference a type target))) s
by_controller a type target address n s is there =
    subst (λ (t : Target). r.spot_by a type (v.reference a type t) t s ≡ ok (spot_of_reference a (plain (v.reference a type t))) s) (sym is)
    (required (is_some (controller_at s address.0 n)) (spot_of_reference a (plain (v.reference a type (to.Controller address n)))) s there)

by_no_controller : (a : Authorization) (type : PureType) (target : Target) (address : Address) (n : ℕ) (s : State) → target ≡ to.Controller address n
    → is_some (controller_at s address.0 n) ≡ false → r.spot_by a type (v.reference a type target) target s ≡ failed 113
by_no_controller a type target address n s is gone =
    subst (λ (t : Target). r.spot_by a type (v.reference a type t) t s ≡ failed 113) (sym is)
    (refused (is_some (controller_at s address.0 n)) (spot_of_reference a (plain (v.reference a type (to.Controller address n)))) s gone)

-- ---- settled

pub account_settles : (a : Authorization) (type : PureType) (target : Target) (address : Address) (one : r.Receiver) (s : State) → target ≡ to.Account address
    → one ≡ r.through (plain (v.reference a type target)) → settled_target a type target s ≡ ok one s
account_settles a type target address one s is e =
    subst (λ (t : Target). settled_target a type t s ≡ ok (r.through (plain (v.reference a type t))) s) (sym is) refl ∙ ap (λ (x : r.Receiver). ok x s) (sym e)

pub controller_settles : (a : Authorization) (type : PureType) (target : Target) (address : Address) (n : ℕ) (one : r.Receiver) (s : State) → target ≡ to.Controller address n
    → is_some (controller_at s address.0 n) ≡ true → one ≡ r.through (plain (v.reference a type target)) → settled_target a type target s ≡ ok one s
controller_settles a type target address n one s is there e =
    subst (λ (t : Target). settled_target a type t s ≡ ok (r.through (plain (v.reference a type t))) s) (sym is)
    (ap (λ o. bind o (λ _. give (r.through (plain (v.reference a type (to.Controller address n)))))) (by_controller a type (to.Controller address n) address n s refl there))
    ∙ ap (λ (x : r.Receiver). ok x s) (sym e)

pub no_controller_settles : (a : Authorization) (type : PureType) (target : Target) (address : Address) (n : ℕ) (s : State) → target ≡ to.Controller address n
    → is_some (controller_at s address.0 n) ≡ false → settled_target a type target s ≡ failed 113
no_controller_settles a type target address n s is gone =
    subst (λ (t : Target). settled_target a type t s ≡ failed 113) (sym is)
    (ap (λ o. bind o (λ _. give (r.through (plain (v.reference a type (to.Controller address n)))))) (by_no_controller a type (to.Controller address n) address n s refl gone))

-- ---- looked at

-- a reference of this shape
led : (shape : NodeShape) (a : Authorization) (type : PureType) (target : Target) (s : State) → shape ≡ plain (v.reference a type target)
    → r.deref shape s ≡ r.spot_by a type (v.reference a type target) target s
led shape a type target s is = ap (λ (k : NodeShape). r.deref k s) is

spot_is : (shape : NodeShape) (a : Authorization) (type : PureType) (target : Target) (spot : r.Spot) (s : State) → shape ≡ plain (v.reference a type target)
    → spot ≡ spot_of_reference a shape → ok (spot_of_reference a (plain (v.reference a type target))) s ≡ ok spot s
spot_is shape a type target spot s is e = ap (λ (x : r.Spot). ok x s) (ap (spot_of_reference a) (sym is) ∙ sym e)

-- a reference to a node is a link, and no value
pub node_looks : (shape : NodeShape) (a : Authorization) (type : PureType) (target : Target) (l : ℕ) (s : State) → shape ≡ plain (v.reference a type target) → target ≡ to.Node l → r.deref shape s ≡ ill
node_looks shape a type target l s whole is = led shape a type target s whole ∙ ap (λ (t : Target). r.spot_by a type (v.reference a type t) t s) is

pub account_looks : (shape : NodeShape) (a : Authorization) (type : PureType) (target : Target) (address : Address) (spot : r.Spot) (s : State)
    → shape ≡ plain (v.reference a type target) → target ≡ to.Account address → spot ≡ record { rights = Some a; label = None; tree = record { optionals = 0; shape = shape; parts = stop } }
    → r.deref shape s ≡ ok spot s
account_looks shape a type target address spot s whole is e = led shape a type target s whole ∙ by_account a type target address s is ∙ spot_is shape a type target spot s whole e

pub controller_looks : (shape : NodeShape) (a : Authorization) (type : PureType) (target : Target) (address : Address) (n : ℕ) (spot : r.Spot) (s : State)
    → shape ≡ plain (v.reference a type target) → target ≡ to.Controller address n → is_some (controller_at s address.0 n) ≡ true
    → spot ≡ record { rights = Some a; label = None; tree = record { optionals = 0; shape = shape; parts = stop } } → r.deref shape s ≡ ok spot s
controller_looks shape a type target address n spot s whole is there e =
    led shape a type target s whole ∙ by_controller a type target address n s is there ∙ spot_is shape a type target spot s whole e

pub no_controller_looks : (shape : NodeShape) (a : Authorization) (type : PureType) (target : Target) (address : Address) (n : ℕ) (s : State)
    → shape ≡ plain (v.reference a type target) → target ≡ to.Controller address n → is_some (controller_at s address.0 n) ≡ false → r.deref shape s ≡ failed 113
no_controller_looks shape a type target address n s whole is gone = led shape a type target s whole ∙ by_no_controller a type target address n s is gone
