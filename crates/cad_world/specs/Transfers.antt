-- What comes to a place of a type.
use Rattle.std.specs.Prelude.{ℕ, ◌-◌, nat_le}
use Rattle.cad_syntax.specs.Types.{PureType, optional, reference}
use Rattle.cad_syntax.specs.declared.types.Authorization.{Authorization}
use Rattle.cad_values.specs.Sizes.{most_high}
use Rattle.cad_values.specs.Values.{PureValue, nil}
use Rattle.cad_values.specs.Values as v
use Rattle.cad_values.specs.declared.value.Target.{Target}
use Rattle.cad_values.specs.declared.value.Target.TheVariants as to
use Rattle.cad_types.specs.Optionals.{layers}
use Rattle.cad_world.specs.Rows.{NodeShape, plain, link, Tree}
use Rattle.cad_world.specs.State.{Action, ◌>>◌, give, require, spend}
use Rattle.cad_world.specs.Trees.{tree_weight, tree_height}

-- the optionals of what has come to a place of the type: at least as many as the type has; nil stays as it is
abbrev pub rounds : NodeShape → ℕ → PureType → ℕ
rounds (plain nil) n t = n
rounds shape n t = layers n t

abbrev pub carried_authorization : PureType → Authorization → Authorization
carried_authorization (optional t) own = carried_authorization t own
carried_authorization (reference a t) own = a
carried_authorization t own = own

-- what a reference to storage borrows; another reference keeps what it is
abbrev pub carried_target : Target → PureType → PureType → PureType
carried_target (to.Stored address identifier) type own = type
carried_target target type own = own

abbrev pub carried_value : PureType → PureValue → PureValue
carried_value (optional t) x = carried_value t x
carried_value (reference a t) (v.reference own target to) = v.reference a (carried_target to t target) to
carried_value t x = x

-- a reference is of the authorization of the place's type from then on
abbrev pub carried : PureType → NodeShape → NodeShape
carried t (link own l n) = link (carried_authorization t own) l n
carried t (plain x) = plain (carried_value t x)
carried t shape = shape

abbrev pub come_to : PureType → Tree → Tree
come_to type t = record t { optionals = rounds t.shape t.optionals type; shape = carried type t.shape }

-- wrapped and no more
abbrev pub rounded : PureType → Tree → Tree
rounded type t = record t { optionals = rounds t.shape t.optionals type }

-- a value is handed over, compared or ended: 123 where it is too high, and a unit for each part but the first
abbrev pub charged : Tree → Action (Unit {0})
charged t = require 123 (nat_le (tree_height t) most_high) (spend (tree_weight t - 1))

abbrev pub transferred : PureType → Tree → Action Tree
transferred type t = charged t >> give (come_to type t)
