-- A row whose values are asked one after the other.
use Rattle.std.specs.Prelude.{Result}
use Rattle.cad_evaluation.specs.Containers.{all_of_type}
use Rattle.cad_outcomes.specs.Outcomes.{no_value}
use Rattle.cad_outcomes.specs.declared.stop.Stop.{Stop}
use Rattle.cad_state.specs.Views.{FindsAndCarriesOut}
use Rattle.cad_state.specs.declared.state.RunState.{RunState}
use Rattle.cad_syntax.specs.Types.{PureType}
use Rattle.cad_world.specs.Rows.{Row}
use Rattle.cad_world.specs.State.{done}

-- what is asked of the rest now is what is asked of the whole row at first
abbrev pub RestIsAll : PureType → Row → Row → RunState → RunState → Type 0
RestIsAll type rest row now first = (end : RunState) (r : Result (Unit {0}) Stop)
    → FindsAndCarriesOut no_value (all_of_type type rest done) now end r → FindsAndCarriesOut no_value (all_of_type type row done) first end r
