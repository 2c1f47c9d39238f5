-- What a receiver is now is the node with its label.
use Rattle.std.proofs.Common.{◌≡◌, ℕ, Bool, true, false, Option, Some, None, refl, subst}
use Rattle.std.specs.Option.{is_some}
use Rattle.cad_syntax.specs.Types.{PureType}
use Rattle.cad_syntax.specs.declared.types.Authorization.{Authorization}
use Rattle.cad_types.specs.Below.{below}
use Rattle.cad_values.specs.Values.{PureValue}
use Rattle.cad_values.specs.Values as v
use Rattle.cad_values.specs.declared.value.Target.{Target}
use Rattle.cad_values.specs.declared.value.Target.TheVariants as to
use Rattle.cad_world.specs.Declared.{declarations}
use Rattle.cad_world.specs.Labels.{at, stored_slot}
use Rattle.cad_world.specs.Locations.{Location, stored, name}
use Rattle.cad_world.specs.OwnTypes.{own_type, controller_at}
use Rattle.cad_world.specs.Rows.{NodeShape, plain, link, stop, Tree, Slot, out, free, full, Found}
use Rattle.cad_world.specs.State.{State, Outcome, ok, failed, limit, ill, bind, Action, require, or_fail, give}
use Rattle.cad_world.specs.Receivers.{Receiver, standing, through, absent, Spot, spot_at, stored_spot, spot_by, plain_spot, deref, look_at}

abbrev pub OfLabel : Option ℕ → Tree → State → Type 0
OfLabel None t s = Unit {0}
OfLabel (Some l) t s = (f : Found) × (at l s ≡ Some f) × (f.tree.shape ≡ t.shape) × (f.tree.parts ≡ t.parts)

abbrev NodeOf : Outcome Spot → Type 0
NodeOf (ok spot s) = OfLabel spot.label spot.tree s
NodeOf (failed e) = Unit {0}
NodeOf limit = Unit {0}
NodeOf ill = Unit {0}

bind_node : {A : Type 0} (o : Outcome A) (f : A → Action Spot) → ((a : A) (s : State) → NodeOf (f a s)) → NodeOf (bind o f)
bind_node (ok a s) f h = h a s
bind_node (failed e) f h = tt
bind_node limit f h = tt
bind_node ill f h = tt

require_node : (e : ℕ) (b : Bool) (p : Action Spot) (s : State) → NodeOf (p s) → NodeOf (require e b p s)
require_node e true p s h = h
require_node e false p s h = tt

or_fail_node : {A : Type 0} (e : ℕ) (o : Option A) (f : A → Action Spot) (s : State) → ((a : A) → o ≡ Some a → NodeOf (f a s)) → NodeOf (or_fail e o f s)
or_fail_node e None f s h = tt
or_fail_node e (Some a) f s h = h a refl

spot_node : (rights : Option Authorization) (l n : ℕ) (s : State) → NodeOf (spot_at rights l n s)
spot_node rights l n s = or_fail_node 113 (at l s) (λ f. give (record { rights = rights; label = Some l; tree = record (f.tree) { optionals = n } })) s (λ f e. (f, e, refl, refl))

stored_node : (a : Authorization) (type : PureType) (x : Location) (o : Slot) (s : State) → NodeOf (stored_spot a type x o s)
stored_node a type x out s = tt
stored_node a type x free s = tt
stored_node a type x (full t) s = or_fail_node 113 (own_type s t) _ s (λ own e. require_node 114 (below (declarations s) own type) _ s (bind_node (name x s) _ (λ l w. spot_node (Some a) l t.optionals w)))

by_node : (a : Authorization) (type : PureType) (own : PureValue) (target : Target) (s : State) → NodeOf (spot_by a type own target s)
by_node a type own (to.Node l) s = tt
by_node a type own (to.Stored address n) s = stored_node a type (stored address.0 n) (stored_slot s address.0 n) s
by_node a type own (to.Account address) s = tt
by_node a type own (to.Controller address n) s = require_node 113 (is_some (controller_at s address.0 n))
    (give (record { rights = Some a; label = None; tree = record { optionals = 0; shape = plain own; parts = stop } })) s tt

plain_node : (x : PureValue) (s : State) → NodeOf (plain_spot x s)
plain_node (v.reference a type target) s = by_node a type (v.reference a type target) target s
plain_node x s = tt

deref_node : (shape : NodeShape) (s : State) → NodeOf (deref shape s)
deref_node (link a l n) s = spot_node (Some a) l n s
deref_node (plain x) s = plain_node x s
deref_node shape s = tt

look_node : (r : Receiver) (s : State) → NodeOf (look_at r s)
look_node (standing rights l n) s = spot_node rights l n s
look_node (through shape) s = deref_node shape s
look_node absent s = tt

-- a spot with a label is the node with it
pub node_of_look : (r : Receiver) (s w : State) (spot : Spot) → look_at r s ≡ ok spot w → OfLabel spot.label spot.tree w
node_of_look r s w spot e = subst (λ (o : Outcome Spot). NodeOf o) e (look_node r s)
