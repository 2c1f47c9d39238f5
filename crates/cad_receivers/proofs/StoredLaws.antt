-- A reference to storage is settled in two steps: what is stored is tested, and then named.
use Rattle.std.proofs.Common.{◌≡◌, ℕ, Bool, true, false, Option, Some, None, refl}
use Rattle.cad_evaluation.specs.Casts.{with_type}
use Rattle.cad_labels.proofs.Forms.{keeps_fail, keeps_give, keeps_or_fail, keeps_require}
use Rattle.cad_labels.specs.Laws.{Keeps, AnyOne}
use Rattle.cad_receivers.specs.Code.Stored.{depth_of_own, depth_of_type, depth_in, depth_stored}
use Rattle.cad_receivers.specs.Settled.{stood_lent, settled_slot, settled_stored}
use Rattle.cad_syntax.specs.Types.{PureType}
use Rattle.cad_syntax.specs.declared.text.Name.{Name}
use Rattle.cad_syntax.specs.declared.types.Authorization.{Authorization}
use Rattle.cad_types.specs.Below.{below}
use Rattle.cad_world.specs.Declared.{declarations}
use Rattle.cad_world.specs.Labels.{stored_slot}
use Rattle.cad_world.specs.Locations.{Location, stored}
use Rattle.cad_world.specs.OwnTypes.{own_type}
use Rattle.cad_world.specs.Rows.{Tree, Slot, out, free, full}
use Rattle.cad_world.specs.State.{State, bind, Action, ◌>>=◌, give, require, or_fail}

require_then : {A B : Type 0} (b : Bool) (a : A) (f : A → Action B) (s : State) → require 114 b (f a) s ≡ bind (require 114 b (give a) s) f
require_then true a f s = refl
require_then false a f s = refl

typed_then : {A B : Type 0} (o : Option PureType) (g : PureType → Bool) (a : A) (f : A → Action B) (s : State)
    → or_fail 113 o (λ own. require 114 (g own) (f a)) s ≡ bind (or_fail 113 o (λ own. require 114 (g own) (give a)) s) f
typed_then (Some own) g a f s = require_then (g own) a f s
typed_then None g a f s = refl

slot_in_steps : (a : Authorization) (type : PureType) (x : Location) (o : Slot) (s : State) → settled_slot a type x o s ≡ bind (depth_in type o s) (stood_lent a x)
slot_in_steps a type x out s = refl
slot_in_steps a type x free s = refl
slot_in_steps a type x (full t) s = typed_then (own_type s t) (λ own. below (declarations s) own type) t.optionals (stood_lent a x) s

pub stored_in_steps : (a : Authorization) (type : PureType) (address : ℕ) (n : Name) (s : State)
    → settled_stored a type address n s ≡ (depth_stored type address n >>= stood_lent a (stored address n)) s
stored_in_steps a type address n s = slot_in_steps a type (stored address n) (stored_slot s address n) s

-- ---- the own type first

own_then : (o : Option PureType) (test : State → PureType → Bool) (n : ℕ) (s : State)
    → or_fail 113 o (λ own. require 114 (test s own) (give n)) s ≡ (or_fail 113 o (λ own. give own) >>= (λ own u. require 114 (test u own) (give n) u)) s
own_then None test n s = refl
own_then (Some own) test n s = refl

pub depth_in_steps : (type : PureType) (t : Tree) (s : State) → depth_of_type type t s ≡ (with_type t (λ own. give own) >>= (λ own. depth_of_own type own t.optionals)) s
depth_in_steps type t s = own_then (own_type s t) (λ u own. below (declarations u) own type) t.optionals s

-- ---- labels

slot_keeps : (type : PureType) (o : Slot) → Keeps AnyOne (depth_in type o)
slot_keeps type out = keeps_fail {A = ℕ} AnyOne 114
slot_keeps type free = keeps_fail {A = ℕ} AnyOne 114
slot_keeps type (full t) = λ s once. keeps_or_fail AnyOne 113 (own_type s t) (λ own. require 114 (below (declarations s) own type) (give t.optionals))
    (λ own. keeps_require AnyOne 114 (below (declarations s) own type) (give t.optionals) (keeps_give AnyOne t.optionals tt)) s once

pub depth_keeps : (type : PureType) (address : ℕ) (n : Name) → Keeps AnyOne (depth_stored type address n)
depth_keeps type address n = λ s once. slot_keeps type (stored_slot s address n) s once
