-- The steps in which a reference to storage is cast: what it leads to tells the type.
use Rattle.std.specs.Prelude.{ℕ, Option, Some, None}
use Rattle.cad_syntax.specs.Types.{PureType, reference}
use Rattle.cad_syntax.specs.declared.types.Authorization.{Authorization}
use Rattle.cad_grammar.specs.declared.expression.CastKind.{CastKind}
use Rattle.cad_types.specs.Optionals.{optionals}
use Rattle.cad_values.specs.Values.{PureValue}
use Rattle.cad_values.specs.Values as v
use Rattle.cad_values.specs.declared.value.Target.{Target}
use Rattle.cad_values.specs.declared.value.Target.TheVariants as to
use Rattle.cad_world.specs.Receivers as r
use Rattle.cad_world.specs.Rows.{NodeShape, plain, Tree}
use Rattle.cad_world.specs.State.{Action, ◌>>=◌, give}
use Rattle.cad_evaluation.specs.Casts.{with_type}
use Rattle.cad_casts.specs.Code.Judged.{cast_from, own_cast}
use Rattle.cad_receivers.specs.Views.{at_spot}

-- the rights of a reference to storage
abbrev pub rights_to : Authorization → Target → Option Authorization
rights_to a (to.Stored address n) = Some a
rights_to a _ = None

abbrev pub rights_of_value : PureValue → Option Authorization
rights_of_value (v.reference a type target) = rights_to a target
rights_of_value _ = None

abbrev pub stored_rights : NodeShape → Option Authorization
stored_rights (plain x) = rights_of_value x
stored_rights _ = None

-- the type of a reference with these rights to what is looked at, in so many optionals
abbrev pub type_led : Authorization → ℕ → r.Spot → Action PureType
type_led a n spot = with_type spot.tree (λ own. give (optionals n (reference a own)))

abbrev pub type_by : Option Authorization → Tree → Action (Option PureType)
type_by None t = give None
type_by (Some a) t = at_spot (r.through t.shape) (type_led a t.optionals) >>= (λ own. give (Some own))

-- the type by which a reference to storage is cast; none of any other value
abbrev pub stored_type : Tree → Action (Option PureType)
stored_type t = type_by (stored_rights t.shape) t

-- by that type, or else by the own type
abbrev pub cast_of_type : CastKind → PureType → Tree → Option PureType → Action Tree
cast_of_type kind type t None = own_cast kind type t
cast_of_type kind type t (Some own) = cast_from kind own type t
