-- What a type carries over to a reference that comes to its place.
use Rattle.std.specs.Prelude.{Bool, true, false, Option, Some, None}
use Rattle.cad_syntax.specs.Types.{PureType, optional, reference}
use Rattle.cad_syntax.specs.declared.types.Authorization.{Authorization}
use Rattle.cad_values.specs.Values.{PureValue, nil}
use Rattle.cad_world.specs.Rows.{NodeShape, plain}
use Rattle.cad_world.specs.Transfers.{carried}

-- the reference that a type is without its optionals: what it may do, and its target
abbrev pub reference_in : PureType → Option (Authorization × PureType)
reference_in (optional t) = reference_in t
reference_in (reference a t) = Some (a, t)
reference_in _ = None

abbrev pub carried_by : Option (Authorization × PureType) → NodeShape → NodeShape
carried_by None shape = shape
carried_by (Some x) shape = carried (reference x.0 x.1) shape

abbrev pub is_nil : PureValue → Bool
is_nil nil = true
is_nil _ = false

abbrev pub is_nil_shape : NodeShape → Bool
is_nil_shape (plain x) = is_nil x
is_nil_shape _ = false
