-- Arguments that come to parameters, one after the other.
use Rattle.std.specs.Prelude.{◌≡◌, List, Option, Some, None, Result, Ok, Err}
use Rattle.std.specs.declared.alloc.Global.{Global}
use Rattle.std.specs.declared.vec.Vec.{Vec}
use Rattle.cad_evaluation.specs.Casts.{with_type}
use Rattle.cad_outcomes.specs.declared.stop.Stop.{Stop}
use Rattle.cad_outcomes.specs.declared.stop.Stop.TheVariants.{Memory}
use Rattle.cad_rows.specs.Views.{PlaceView, vacant, taken, pure_row}
use Rattle.cad_rows.specs.declared.tree.Place.{Place}
use Rattle.cad_syntax.specs.Types.{PureType}
use Rattle.cad_types.specs.Declarations.{Declaration}
use Rattle.cad_types.specs.Optionals.{fits}
use Rattle.cad_world.specs.Rows.{Row, stop, Tree, first}
use Rattle.cad_world.specs.State.{Action, give, fail, require}
use Rattle.cad_world.specs.Transfers.{come_to}

-- a value that has come to a place of a type
abbrev pub come : PureType → Tree → Action Tree
come type t = give (come_to type t)

-- a value of this own type comes to a parameter
abbrev pub fit_own : List Declaration → PureType → Tree → PureType → Action Tree
fit_own k type t own = require 125 (fits k own type) (come type t)

abbrev pub fit_tree : List Declaration → PureType → Tree → Action Tree
fit_tree k type t = with_type t (fit_own k type t)

-- what stands in a place
abbrev pub in_place : PlaceView → Option Tree
in_place vacant = None
in_place (taken l t) = Some t

abbrev pub fit_found : List Declaration → PureType → Option Tree → Action Tree
fit_found k type None = fail 125
fit_found k type (Some t) = fit_tree k type t

-- no argument is left
abbrev pub no_more : Row → Action Row
no_more stop = give stop
no_more _ = fail 125

-- the value comes before a row, where there is one
abbrev pub ComesBefore : Tree → Result (Vec Place Global) Stop → Result (Vec Place Global) Stop → Type 0
ComesBefore t (Ok row) (Ok out) = pure_row out.items ≡ first t (pure_row row.items)
ComesBefore t (Ok row) (Err why) = why ≡ Memory
ComesBefore t (Err why) (Ok out) = ⊥
ComesBefore t (Err why) (Err because) = because ≡ why
