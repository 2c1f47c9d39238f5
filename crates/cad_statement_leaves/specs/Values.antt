-- Values of statements: what an expression comes to in a place of a type, and the truth that a value is.
use Rattle.std.specs.Prelude.{Bool}
use Rattle.cad_syntax.specs.Types.{PureType}
use Rattle.cad_declarations.specs.Typed as e
use Rattle.cad_evaluation.specs.Callees.{Calls, Front}
use Rattle.cad_evaluation.specs.Numbers.{truth_of}
use Rattle.cad_evaluation.specs.Terms.{eval}
use Rattle.cad_world.specs.Rows.{Tree}
use Rattle.cad_world.specs.State.{Action, ◌>>=◌, give, with_some}
use Rattle.cad_world.specs.Transfers.{transferred}

-- the value of an expression, come to the type
abbrev pub come : Front → Calls → e.TermTree → PureType → Action Tree
come front calls a type = eval front calls a >>= transferred type

-- the truth that a value is
abbrev pub truth : Tree → Action Bool
truth t = with_some (truth_of t) give
