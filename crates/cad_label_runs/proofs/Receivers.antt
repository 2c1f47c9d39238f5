-- Receivers: labels are kept apart, and values in hand have none.
use Rattle.cad_labels.proofs.Keeping.{behind, gives_follow}
use Rattle.cad_labels.proofs.Keeping.{stays}
use Rattle.std.proofs.Common.{◌≡◌, ℕ, Bool, true, false, Option, Some, None, refl}
use Rattle.std.specs.Option.{is_some}
use Rattle.cad_syntax.specs.Types.{PureType}
use Rattle.cad_syntax.specs.declared.types.Authorization.{Authorization}
use Rattle.cad_types.specs.Below.{below}
use Rattle.cad_values.specs.Values.{PureValue}
use Rattle.cad_values.specs.Values as v
use Rattle.cad_values.specs.declared.value.Target.{Target}
use Rattle.cad_values.specs.declared.value.Target.TheVariants as to
use Rattle.cad_world.specs.Declared.{declarations}
use Rattle.cad_world.specs.Labels.{at, stored_slot}
use Rattle.cad_world.specs.Locations.{Location, stored, name}
use Rattle.cad_world.specs.Marks.{AreGivenOnce}
use Rattle.cad_world.specs.OwnTypes.{own_type, controller_at}
use Rattle.cad_world.specs.Rows.{NodeShape, plain, link, stop, Tree, Slot, out, free, full}
use Rattle.cad_world.specs.State.{State, Outcome, ok, failed, limit, ill, bind, Action, require, or_fail}
use Rattle.cad_world.specs.Receivers.{Receiver, standing, through, absent, Spot, spot_at, stored_spot, spot_by, plain_spot, deref, look_at}
use Rattle.cad_labels.specs.Laws.{Follows, Gives}
use Rattle.cad_label_runs.specs.Laws.{StandsNow}
use Rattle.std.specs.Prelude.{ℕ, Bool, true, false, Option, Some, None}
use Rattle.std.specs.Option.{is_some}
use Rattle.cad_syntax.specs.Types.{PureType}
use Rattle.cad_syntax.specs.declared.types.Authorization.{Authorization}
use Rattle.cad_values.specs.Values.{PureValue}
use Rattle.cad_values.specs.Values as v
use Rattle.cad_values.specs.declared.value.Target.{Target}
use Rattle.cad_values.specs.declared.value.Target.TheVariants as to
use Rattle.cad_types.specs.Below.{below}
use Rattle.cad_world.specs.Rows.{NodeShape, plain, link, stop, Tree, Slot, full}
use Rattle.cad_world.specs.State.{Action}
use Rattle.cad_world.specs.Declared.{declarations}
use Rattle.cad_world.specs.Labels.{stored_slot}
use Rattle.cad_world.specs.OwnTypes.{own_type, controller_at}
use Rattle.cad_world.specs.Locations.{Location, stored}
use Rattle.cad_world.specs.Receivers.{Receiver, standing, through, absent, spot_at, stored_spot, spot_by, plain_spot, deref, look_at, is_reference, receiver_of, receiver_with, receiver_at}
use Rattle.cad_labels.specs.Laws.{Keeps, AnyOne}
use Rattle.cad_world.specs.State.{give}
use Rattle.cad_labels.proofs.Forms.{keeps_give}
use Rattle.cad_labels.proofs.Keeping.{keeps_bind}
use Rattle.cad_labels.proofs.Places.{naming_keeps, read_keeps}

pub receiver_of_keeps : (x1 : Option Authorization) (x2 : Location) (x3 : Bool) (x4 : Tree) → Keeps AnyOne (receiver_of x1 x2 x3 x4)
receiver_of_keeps rights x true t = keeps_give {A = Receiver} AnyOne (through t.shape) tt
receiver_of_keeps rights x false t = keeps_bind AnyOne AnyOne _ (λ l. give (standing rights l t.optionals)) (naming_keeps x) (λ l h_l. keeps_give {A = Receiver} AnyOne (standing rights l t.optionals) tt)

pub receiver_with_keeps : (x1 : Option Authorization) (x2 : Location) (x3 : Option Tree) → Keeps AnyOne (receiver_with x1 x2 x3)
receiver_with_keeps rights x None = keeps_give {A = Receiver} AnyOne absent tt
receiver_with_keeps rights x (Some t) = receiver_of_keeps rights x (is_reference t) t

pub receiver_at_keeps : (x1 : Option Authorization) (x2 : Location) → Keeps AnyOne (receiver_at x1 x2)
receiver_at_keeps rights x = keeps_bind AnyOne AnyOne _ _ (read_keeps x) (λ v1 h_v1. receiver_with_keeps rights x v1)

-- ---- what is looked at stands so now

abbrev pub GivesNow : State → Outcome Spot → Type 0
GivesNow s (ok spot v) = StandsNow spot.label spot.tree.parts v × Follows s v
GivesNow s (failed e) = Unit {0}
GivesNow s limit = Unit {0}
GivesNow s ill = Unit {0}

pub now_bind : {B : Type 0} (Q : B → Type 0) (s : State) (o : Outcome Spot) (f : Spot → Action B) → GivesNow s o
    → ((spot : Spot) (v : State) → StandsNow spot.label spot.tree.parts v → AreGivenOnce v → Gives Q v (f spot v)) → Gives Q s (bind o f)
now_bind Q s (ok spot v) f h k = gives_follow Q s v (f spot v) h.1 (k spot v h.0 h.1.0)
now_bind Q s (failed e) f h k = tt
now_bind Q s limit f h k = tt
now_bind Q s ill f h k = tt

now_follow : (s v : State) (o : Outcome Spot) → Follows s v → GivesNow v o → GivesNow s o
now_follow s v (ok spot w) h k = (k.0, behind s v w h k.1)
now_follow s v (failed e) h k = tt
now_follow s v limit h k = tt
now_follow s v ill h k = tt

after_now : {A : Type 0} (s : State) (o : Outcome A) (f : A → Action Spot) → Gives AnyOne s o → ((a : A) (v : State) → AreGivenOnce v → GivesNow v (f a v)) → GivesNow s (bind o f)
after_now s (ok a v) f h k = now_follow s v (f a v) h.1 (k a v h.1.0)
after_now s (failed e) f h k = tt
after_now s limit f h k = tt
after_now s ill f h k = tt

require_now : (e : ℕ) (b : Bool) (p : Action Spot) (s : State) → GivesNow s (p s) → GivesNow s (require e b p s)
require_now e true p s h = h
require_now e false p s h = tt

or_fail_now : {A : Type 0} (e : ℕ) (o : Option A) (f : A → Action Spot) (s : State) → ((a : A) → o ≡ Some a → GivesNow s (f a s)) → GivesNow s (or_fail e o f s)
or_fail_now e None f s h = tt
or_fail_now e (Some a) f s h = h a refl

spot_now : (rights : Option Authorization) (l n : ℕ) (s : State) → AreGivenOnce s → GivesNow s (spot_at rights l n s)
spot_now rights l n s once = or_fail_now 113 (at l s) (λ f. give (record { rights = rights; label = Some l; tree = record (f.tree) { optionals = n } })) s (λ f e. ((f, e, refl), stays s once))

stored_now : (a : Authorization) (type : PureType) (x : Location) (o : Slot) (s : State) → AreGivenOnce s → GivesNow s (stored_spot a type x o s)
stored_now a type x out s once = tt
stored_now a type x free s once = tt
stored_now a type x (full t) s once = or_fail_now 113 (own_type s t) _ s (λ own e. require_now 114 (below (declarations s) own type) _ s
    (after_now s (name x s) _ (naming_keeps x s once) (λ l w more. spot_now (Some a) l t.optionals w more)))

by_now : (a : Authorization) (type : PureType) (own : PureValue) (target : Target) (s : State) → AreGivenOnce s → GivesNow s (spot_by a type own target s)
by_now a type own (to.Node l) s once = tt
by_now a type own (to.Stored address n) s once = stored_now a type (stored address.0 n) (stored_slot s address.0 n) s once
by_now a type own (to.Account address) s once = (tt, stays s once)
by_now a type own (to.Controller address n) s once = require_now 113 (is_some (controller_at s address.0 n))
    (give (record { rights = Some a; label = None; tree = record { optionals = 0; shape = plain own; parts = stop } })) s (tt, stays s once)

plain_now : (x : PureValue) (s : State) → AreGivenOnce s → GivesNow s (plain_spot x s)
plain_now (v.reference a type target) s once = by_now a type (v.reference a type target) target s once
plain_now x s once = tt

deref_now : (shape : NodeShape) (s : State) → AreGivenOnce s → GivesNow s (deref shape s)
deref_now (link a l n) s once = spot_now (Some a) l n s once
deref_now (plain x) s once = plain_now x s once
deref_now shape s once = tt

pub look_now : (r : Receiver) (s : State) → AreGivenOnce s → GivesNow s (look_at r s)
look_now (standing rights l n) s once = spot_now rights l n s once
look_now (through shape) s once = deref_now shape s once
look_now absent s once = (tt, stays s once)
