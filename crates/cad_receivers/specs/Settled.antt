-- How what a member is used on is settled: a reference to storage becomes the node that it leads to, which is named; anything
-- else is looked at, and stays what it is.
use Rattle.std.specs.Prelude.{◌≡◌, ℕ, Some}
use Rattle.cad_syntax.specs.Types.{PureType}
use Rattle.cad_syntax.specs.declared.text.Name.{Name}
use Rattle.cad_syntax.specs.declared.types.Authorization.{Authorization}
use Rattle.cad_values.specs.Values.{PureValue}
use Rattle.cad_values.specs.Values as v
use Rattle.cad_values.specs.declared.value.Target.{Target}
use Rattle.cad_values.specs.declared.value.Target.TheVariants as to
use Rattle.cad_world.specs.Labels.{stored_slot}
use Rattle.cad_world.specs.Locations.{Location, stored, name}
use Rattle.cad_world.specs.Receivers as r
use Rattle.cad_world.specs.Rows.{NodeShape, plain, Slot, full}
use Rattle.cad_world.specs.State.{State, Action, ◌>>=◌, ◌>>◌, give, fail, stuck}

-- the node in a place, which is named, seen in so many optionals
abbrev pub stood_lent : Authorization → Location → ℕ → Action r.Receiver
stood_lent a x n = name x >>= (λ l. give (r.standing (Some a) l n))

-- what is stored, where it is of the type
abbrev pub settled_slot : Authorization → PureType → Location → Slot → Action r.Receiver
settled_slot a type x (full t) = r.of_borrowed_type type t (stood_lent a x t.optionals)
settled_slot a type x _ = fail 114

abbrev pub settled_stored : Authorization → PureType → ℕ → Name → Action r.Receiver
settled_stored a type address n = λ s. settled_slot a type (stored address n) (stored_slot s address n) s

abbrev pub settled_target : Authorization → PureType → Target → Action r.Receiver
settled_target a type (to.Stored address n) = settled_stored a type address.0 n
settled_target a type target = r.spot_by a type (v.reference a type target) target >> give (r.through (plain (v.reference a type target)))

abbrev pub settled_value : PureValue → Action r.Receiver
settled_value (v.reference a type target) = settled_target a type target
settled_value x = stuck

abbrev pub settled_shape : NodeShape → Action r.Receiver
settled_shape (plain x) = settled_value x
settled_shape shape = r.deref shape >> give (r.through shape)

abbrev pub settled : r.Receiver → Action r.Receiver
settled (r.through shape) = settled_shape shape
settled x = r.look_at x >> give x

-- what is settled is looked at as what it was
abbrev pub SettlesToLook : Type 0
SettlesToLook = (x : r.Receiver) (s : State) → r.look_at x s ≡ (settled x >>= r.look_at) s
