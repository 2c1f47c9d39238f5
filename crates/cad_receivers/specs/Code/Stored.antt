-- The steps in which a reference to storage is settled: what is stored is tested, and then named.
use Rattle.std.specs.Prelude.{ℕ}
use Rattle.cad_syntax.specs.Types.{PureType}
use Rattle.cad_syntax.specs.declared.text.Name.{Name}
use Rattle.cad_types.specs.Below.{below}
use Rattle.cad_world.specs.Declared.{declarations}
use Rattle.cad_world.specs.Labels.{stored_slot}
use Rattle.cad_world.specs.Receivers.{of_borrowed_type}
use Rattle.cad_world.specs.Rows.{Slot, full, Tree}
use Rattle.cad_world.specs.State.{Action, give, fail, require}

-- in how many optionals a value is, where its own type is below this one
abbrev pub depth_of_own : PureType → PureType → ℕ → Action ℕ
depth_of_own type own n = λ s. require 114 (below (declarations s) own type) (give n) s

-- where it is of this type
abbrev pub depth_of_type : PureType → Tree → Action ℕ
depth_of_type type t = of_borrowed_type type t (give t.optionals)

-- what stands in a place
abbrev pub depth_in : PureType → Slot → Action ℕ
depth_in type (full t) = depth_of_type type t
depth_in type _ = fail 114

-- what is stored
abbrev pub depth_stored : PureType → ℕ → Name → Action ℕ
depth_stored type address n = λ s. depth_in type (stored_slot s address n) s
