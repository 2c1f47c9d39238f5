-- What is settled is looked at as what it was, and labels stay given once.
use Rattle.std.proofs.Common.{◌≡◌, ℕ, Bool, true, false, Option, Some, None, refl, sym, ap, ◌∙◌}
use Rattle.std.specs.Option.{is_some}
use Rattle.cad_labels.proofs.Forms.{keeps_give, keeps_fail, keeps_stuck, keeps_require, keeps_or_fail}
use Rattle.cad_labels.proofs.Keeping.{keeps_bind}
use Rattle.cad_labels.proofs.Places.{naming_keeps, looks_keep}
use Rattle.cad_labels.specs.Laws.{Keeps, AnyOne}
use Rattle.cad_receivers.proofs.Settling.{Stays, found_stays}
use Rattle.cad_receivers.specs.Settled.{stood_lent, settled_slot, settled_target, settled_value, settled_shape, settled, SettlesToLook}
use Rattle.cad_syntax.specs.Types.{PureType}
use Rattle.cad_syntax.specs.declared.types.Authorization.{Authorization}
use Rattle.cad_types.specs.Below.{below}
use Rattle.cad_values.specs.Values.{PureValue}
use Rattle.cad_values.specs.Values as v
use Rattle.cad_values.specs.declared.value.Target.{Target}
use Rattle.cad_values.specs.declared.value.Target.TheVariants as to
use Rattle.cad_world.specs.Declared.{declarations}
use Rattle.cad_world.specs.Labels.{at, stored_slot}
use Rattle.cad_world.specs.Locations.{Location, stored, name}
use Rattle.cad_world.specs.OwnTypes.{own_type, controller_at}
use Rattle.cad_world.specs.Receivers as r
use Rattle.cad_world.specs.Rows.{NodeShape, plain, link, array, dictionary, composite, Slot, out, free, full}
use Rattle.cad_world.specs.State.{State, Outcome, ok, failed, limit, ill, bind, Action, ◌>>◌, give, require, or_fail}

-- ---- what isn't a reference to storage

require_stays : {A : Type 0} (e : ℕ) (b : Bool) (a : A) (s : State) → Stays s (require e b (give a) s)
require_stays e true a s = refl
require_stays e false a s = tt

again_in : (x : r.Receiver) (s : State) (o : Outcome r.Spot) → r.look_at x s ≡ o → Stays s o → o ≡ bind (bind o (λ _. give x)) r.look_at
again_in x s (ok spot w) e stays = sym (ap (λ u. r.look_at x u) stays ∙ e)
again_in x s (failed n) e stays = refl
again_in x s limit e stays = refl
again_in x s ill e stays = refl

-- what is looked at in a state that stays is looked at once more
again : (x : r.Receiver) (s : State) → Stays s (r.look_at x s) → r.look_at x s ≡ bind ((r.look_at x >> give x) s) r.look_at
again x s stays = again_in x s (r.look_at x s) refl stays

-- ---- what is stored

named_looks : (a : Authorization) (n : ℕ) (o : Outcome ℕ) → bind o (λ l. r.spot_at (Some a) l n) ≡ bind (bind o (λ l. give (r.standing (Some a) l n))) r.look_at
named_looks a n (ok l w) = refl
named_looks a n (failed e) = refl
named_looks a n limit = refl
named_looks a n ill = refl

require_looks : (b : Bool) (p : Action r.Receiver) (q : Action r.Spot) (s : State) → q s ≡ bind (p s) r.look_at → require 114 b q s ≡ bind (require 114 b p s) r.look_at
require_looks true p q s e = e
require_looks false p q s e = refl

typed_looks : (o : Option PureType) (g : PureType → Bool) (p : Action r.Receiver) (q : Action r.Spot) (s : State) → q s ≡ bind (p s) r.look_at
    → or_fail 113 o (λ own. require 114 (g own) q) s ≡ bind (or_fail 113 o (λ own. require 114 (g own) p) s) r.look_at
typed_looks (Some own) g p q s e = require_looks (g own) p q s e
typed_looks None g p q s e = refl

slot_looks : (a : Authorization) (type : PureType) (x : Location) (o : Slot) (s : State) → r.stored_spot a type x o s ≡ bind (settled_slot a type x o s) r.look_at
slot_looks a type x out s = refl
slot_looks a type x free s = refl
slot_looks a type x (full t) s = typed_looks (own_type s t) (λ own. below (declarations s) own type) (stood_lent a x t.optionals) _ s (named_looks a t.optionals (name x s))

-- ---- all of them

target_looks : (a : Authorization) (type : PureType) (target : Target) (s : State)
    → r.spot_by a type (v.reference a type target) target s ≡ bind (settled_target a type target s) r.look_at
target_looks a type (to.Node l) s = refl
target_looks a type (to.Stored address n) s = slot_looks a type (stored address.0 n) (stored_slot s address.0 n) s
target_looks a type (to.Account address) s = refl
target_looks a type (to.Controller address n) s = again (r.through (plain (v.reference a type (to.Controller address n)))) s (require_stays 113 (is_some (controller_at s address.0 n)) _ s)

value_looks : (x : PureValue) (s : State) → r.plain_spot x s ≡ bind (settled_value x s) r.look_at
value_looks (v.reference a type target) s = target_looks a type target s
value_looks x s = refl

shape_looks : (shape : NodeShape) (s : State) → r.deref shape s ≡ bind (settled_shape shape s) r.look_at
shape_looks (plain x) s = value_looks x s
shape_looks (link a l n) s = again (r.through (link a l n)) s (found_stays (at l s) _ s (λ f. refl))
shape_looks (array type) s = refl
shape_looks (dictionary k t ks) s = refl
shape_looks (composite id i names) s = refl

pub settles_to_look : SettlesToLook
settles_to_look (r.standing rights l n) s = again (r.standing rights l n) s (found_stays (at l s) _ s (λ f. refl))
settles_to_look (r.through shape) s = shape_looks shape s
settles_to_look r.absent s = refl

-- ---- labels

given_keeps : (x : r.Receiver) → Keeps AnyOne (r.look_at x >> give x)
given_keeps x = keeps_bind {A = r.Spot} {B = r.Receiver} AnyOne AnyOne (r.look_at x) (λ _. give x) (looks_keep x) (λ a h. keeps_give AnyOne x tt)

stood_keeps : (a : Authorization) (x : Location) (n : ℕ) → Keeps AnyOne (stood_lent a x n)
stood_keeps a x n = keeps_bind AnyOne AnyOne (name x) (λ l. give (r.standing (Some a) l n)) (naming_keeps x) (λ l h. keeps_give AnyOne (r.standing (Some a) l n) tt)

slot_keeps : (a : Authorization) (type : PureType) (x : Location) (o : Slot) → Keeps AnyOne (settled_slot a type x o)
slot_keeps a type x out = keeps_fail {A = r.Receiver} AnyOne 114
slot_keeps a type x free = keeps_fail {A = r.Receiver} AnyOne 114
slot_keeps a type x (full t) = λ s once. keeps_or_fail AnyOne 113 (own_type s t) (λ own. require 114 (below (declarations s) own type) (stood_lent a x t.optionals))
    (λ own. keeps_require AnyOne 114 (below (declarations s) own type) (stood_lent a x t.optionals) (stood_keeps a x t.optionals)) s once

target_keeps : (a : Authorization) (type : PureType) (target : Target) → Keeps AnyOne (settled_target a type target)
target_keeps a type (to.Stored address n) = λ s once. slot_keeps a type (stored address.0 n) (stored_slot s address.0 n) s once
target_keeps a type (to.Node l) = keeps_stuck {A = r.Receiver} AnyOne
target_keeps a type (to.Account address) = given_keeps (r.through (plain (v.reference a type (to.Account address))))
target_keeps a type (to.Controller address n) = given_keeps (r.through (plain (v.reference a type (to.Controller address n))))

value_keeps : (x : PureValue) → Keeps AnyOne (settled_value x)
value_keeps (v.reference a type target) = target_keeps a type target
value_keeps x = keeps_stuck {A = r.Receiver} AnyOne

shape_keeps : (shape : NodeShape) → Keeps AnyOne (settled_shape shape)
shape_keeps (plain x) = value_keeps x
shape_keeps (link a l n) = given_keeps (r.through (link a l n))
shape_keeps (array type) = given_keeps (r.through (array type))
shape_keeps (dictionary k t ks) = given_keeps (r.through (dictionary k t ks))
shape_keeps (composite id i names) = given_keeps (r.through (composite id i names))

pub settled_keeps : (x : r.Receiver) → Keeps AnyOne (settled x)
settled_keeps (r.standing rights l n) = given_keeps (r.standing rights l n)
settled_keeps (r.through shape) = shape_keeps shape
settled_keeps r.absent = given_keeps r.absent
