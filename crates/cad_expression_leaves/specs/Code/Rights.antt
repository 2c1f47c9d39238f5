-- The rights with which a receiver is met, which are known before it is looked at.
use Rattle.std.specs.Prelude.{Bool, [], Option, Some, None}
use Rattle.cad_syntax.specs.declared.types.Authorization.{Authorization}
use Rattle.cad_types.specs.declared.builtin.Builtin.{Builtin}
use Rattle.cad_values.specs.Values.{PureValue}
use Rattle.cad_values.specs.Values as v
use Rattle.cad_evaluation.specs.Builtins.{member}
use Rattle.cad_evaluation.specs.Callees.{Calls, Front}
use Rattle.cad_world.specs.Receivers.{Receiver, standing, through, absent, look_at}
use Rattle.cad_world.specs.Rows.{NodeShape, plain, link, stop, Tree}
use Rattle.cad_world.specs.State.{Action, ◌>>=◌, guard, stuck}

abbrev pub rights_in_value : PureValue → Option Authorization
rights_in_value (v.reference a type target) = Some a
rights_in_value _ = None

abbrev pub rights_in : NodeShape → Option Authorization
rights_in (link a l n) = Some a
rights_in (plain value) = rights_in_value value
rights_in _ = None

abbrev pub rights_of : Receiver → Option Authorization
rights_of (standing rights l n) = rights
rights_of (through shape) = rights_in shape
rights_of absent = None

-- a receiver that may not be used
abbrev pub refused : Receiver → Action Tree
refused r = look_at r >>= (λ spot. stuck)

-- a built-in member that is read, where it is known whether the receiver may be used
unfoldable pub read_if : Front → Calls → Builtin → Receiver → Bool → Action Tree
read_if front calls b r may = look_at r >>= (λ spot. guard may (member front calls b [] spot stop))
