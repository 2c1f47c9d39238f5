-- What `if let` over a cast is made of.
use Rattle.std.specs.Prelude.{◌≡◌}
use Rattle.cad_syntax.specs.Types.{PureType}
use Rattle.cad_declarations.specs.Typed as e
use Rattle.cad_world.specs.State.{State, Action, ◌>>=◌}
use Rattle.cad_evaluation.specs.Flows.{Flow, if_cast_at}
use Rattle.cad_evaluation.specs.Standing.{Standing}
use Rattle.cad_standing.specs.CastPlaces.{cast_place, if_cast}

-- Law: what is made of the place, and then a block.
abbrev pub CastsFirst : Type 0
CastsFirst = (type : PureType) (x : e.VariableEntry) (body otherwise : Action Flow) (place : Standing) (s : State)
    → if_cast_at type x body otherwise place s ≡ (cast_place type place >>= if_cast x body otherwise) s
