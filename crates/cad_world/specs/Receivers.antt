-- What a member is used on: found by its label or through a reference, and looked at again.
use Rattle.std.specs.Prelude.{ℕ, zero, suc, Bool, true, false, Option, Some, None}
use Rattle.std.specs.Option.{is_some}
use Rattle.cad_syntax.specs.Types.{PureType}
use Rattle.cad_syntax.specs.declared.types.Authorization.{Authorization}
use Rattle.cad_values.specs.Values.{PureValue}
use Rattle.cad_values.specs.Values as v
use Rattle.cad_values.specs.declared.value.Target.{Target}
use Rattle.cad_values.specs.declared.value.Target.TheVariants as to
use Rattle.cad_types.specs.Below.{below}
use Rattle.cad_world.specs.Rows.{NodeShape, plain, link, stop, Tree, Slot, full}
use Rattle.cad_world.specs.State.{Action, ◌>>=◌, give, stuck, fail, require, or_fail}
use Rattle.cad_world.specs.Trees.{nil_tree}
use Rattle.cad_world.specs.Declared.{declarations}
use Rattle.cad_world.specs.Labels.{stored_slot}
use Rattle.cad_world.specs.OwnTypes.{own_type, controller_at}
use Rattle.cad_world.specs.Locations.{Location, stored, with_found, read, name}

pub data Receiver : Type 0 where
  -- a node by its label, met by its owner or through a reference, and how many of its optionals are seen
  standing : Option Authorization → ℕ → ℕ → Receiver
  -- what a reference leads to
  through : NodeShape → Receiver
  -- nil, where a dictionary lacks a key
  absent : Receiver

-- What a receiver is now. An account, a part of it and a controller are the reference itself, and have no label.
pub record Spot : Type 0 where
  -- the authorization of the reference through which it is met; none of what is owned
  pub rights : Option Authorization
  pub label : Option ℕ
  -- with the optionals that are seen
  pub tree : Tree

abbrev pub spot_at : Option Authorization → ℕ → ℕ → Action Spot
spot_at rights l n = with_found l (λ f. give (record { rights = rights; label = Some l; tree = record (f.tree) { optionals = n } }))

-- ---- references to storage

-- what is stored is of the type, or 114
abbrev pub of_borrowed_type : {A : Type 0} → PureType → Tree → Action A → Action A
of_borrowed_type type t p = λ s. or_fail 113 (own_type s t) (λ own. require 114 (below (declarations s) own type) p) s

abbrev pub stored_spot : Authorization → PureType → Location → Slot → Action Spot
stored_spot a type x (full t) = of_borrowed_type type t (name x >>= (λ l. spot_at (Some a) l t.optionals))
stored_spot a type x _ = fail 114

-- ---- Deref

abbrev pub spot_by : Authorization → PureType → PureValue → Target → Action Spot
spot_by a type own (to.Node l) = stuck
spot_by a type own (to.Stored address n) = λ s. stored_spot a type (stored address.0 n) (stored_slot s address.0 n) s
spot_by a type own (to.Account address) = give (record { rights = Some a; label = None; tree = record { optionals = 0; shape = plain own; parts = stop } })
spot_by a type own (to.Controller address n) = λ s. require 113 (is_some (controller_at s address.0 n)) (give (record { rights = Some a; label = None; tree = record { optionals = 0; shape = plain own; parts = stop } })) s

abbrev pub plain_spot : PureValue → Action Spot
plain_spot (v.reference a type target) = spot_by a type (v.reference a type target) target
plain_spot _ = stuck

-- what a reference leads to: 113 where that is gone, 114 where storage has no value of the type
abbrev pub deref : NodeShape → Action Spot
deref (link a l n) = spot_at (Some a) l n
deref (plain v) = plain_spot v
deref _ = stuck

abbrev pub look_at : Receiver → Action Spot
look_at (standing rights l n) = spot_at rights l n
look_at (through shape) = deref shape
look_at absent = give (record { rights = None; label = None; tree = nil_tree })

-- ---- receivers

abbrev pub is_reference_value : PureValue → Bool
is_reference_value (v.reference a t target) = true
is_reference_value _ = false

abbrev pub is_reference_shape : NodeShape → Bool
is_reference_shape (link a l n) = true
is_reference_shape (plain v) = is_reference_value v
is_reference_shape _ = false

-- a reference without optionals round it
abbrev pub is_reference_in : ℕ → NodeShape → Bool
is_reference_in zero shape = is_reference_shape shape
is_reference_in (suc n) shape = false

abbrev pub is_reference : Tree → Bool
is_reference t = is_reference_in t.optionals t.shape

-- the value in a place as a receiver: what a reference leads to, or the node itself, which is named
abbrev pub receiver_of : Option Authorization → Location → Bool → Tree → Action Receiver
receiver_of rights x true t = give (through t.shape)
receiver_of rights x false t = name x >>= (λ l. give (standing rights l t.optionals))

abbrev pub receiver_with : Option Authorization → Location → Option Tree → Action Receiver
receiver_with rights x None = give absent
receiver_with rights x (Some t) = receiver_of rights x (is_reference t) t

abbrev pub receiver_at : Option Authorization → Location → Action Receiver
receiver_at rights x = read x >>= receiver_with rights x
