-- What `if let` makes of a place that is cast, before its blocks.
use Rattle.std.specs.Prelude.{zero, Option, Some, None}
use Rattle.cad_syntax.specs.Types.{PureType, optional}
use Rattle.cad_declarations.specs.Typed as e
use Rattle.cad_types.specs.Below.{below}
use Rattle.cad_world.specs.Declared.{declarations}
use Rattle.cad_world.specs.Locations.{Location, read}
use Rattle.cad_world.specs.Rows.{Tree}
use Rattle.cad_world.specs.State.{Action, ◌>>=◌, give, stuck, guard, choose}
use Rattle.cad_world.specs.Transfers.{transferred}
use Rattle.cad_world.specs.Trees.{wrapped}
use Rattle.cad_evaluation.specs.Casts.{with_type}
use Rattle.cad_evaluation.specs.Changing.{take}
use Rattle.cad_evaluation.specs.Flows.{Flow, if_content}
use Rattle.cad_evaluation.specs.Standing.{Standing, here, is_variable}

-- the value as an optional of the type
abbrev pub cast_content : PureType → Tree → Action (Option Tree)
cast_content type t = transferred (optional type) (wrapped t) >>= (λ v. give (Some v))

-- The value of a place is taken where its own type is below the type, and is an optional of the type then. Else it stays,
-- and there is none.
abbrev pub cast_value : PureType → Location → Option Tree → Action (Option Tree)
cast_value type x None = stuck
cast_value type x (Some t) = with_type t (λ own s. choose (below (declarations s) own type) (take x >>= transferred type >>= cast_content type) (give None) s)

-- the same of the place of an expression
abbrev pub cast_place : PureType → Standing → Action (Option Tree)
cast_place type (here rights x zero) = guard (is_variable x) (read x >>= cast_value type x)
cast_place type _ = stuck

-- the block by whether there is a value
abbrev pub if_cast : e.VariableEntry → Action Flow → Action Flow → Option Tree → Action Flow
if_cast x body otherwise None = otherwise
if_cast x body otherwise (Some t) = if_content None x body otherwise t
