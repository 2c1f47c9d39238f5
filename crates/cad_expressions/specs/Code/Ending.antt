-- How a resource ends in the code: its events are made and kept, then they are emitted one after the other, and it goes.
use Rattle.std.specs.Prelude.{◌++◌, List, Result, Ok, Err}
use Rattle.cad_evaluation.specs.Callees.{Calls}
use Rattle.cad_evaluation.specs.Containers.{void_tree}
use Rattle.cad_evaluation.specs.Ending.{events_of, all_emitted}
use Rattle.cad_making.specs.Dying.{Dying, buried}
use Rattle.cad_outcomes.specs.Outcomes.{no_value}
use Rattle.cad_outcomes.specs.declared.stop.Stop.{Stop}
use Rattle.cad_state.specs.Views.{CarriesOut}
use Rattle.cad_state.specs.declared.state.RunState.{RunState}
use Rattle.cad_world.specs.Rows.{Tree}
use Rattle.cad_world.specs.State.{Action, ◌>>=◌, ◌>>◌, give}

-- events come behind those that are made
abbrev pub made_behind : List Tree → Action (List Tree) → Action (List Tree)
made_behind done p = p >>= (λ es. give (done ++ es))

-- the events are emitted, what ends goes, and there is no value
unfoldable pub told_and_gone : Dying → List Tree → Action Tree
told_and_gone d es = all_emitted es >> (buried d >> give void_tree)

-- what is laid out ends
unfoldable pub ended_from : Calls → Dying → Action Tree
ended_from calls d = events_of calls d.first_label d.types >>= told_and_gone d

-- So far events were emitted: whatever the rest comes to from here, the whole comes to from the start; or emission stopped.
abbrev pub HasEmitted : Action (Unit {0}) → RunState → List Tree → RunState → Result (Unit {0}) Stop → Type 0
HasEmitted whole start rest now (Ok u) = (z : RunState) (r : Result (Unit {0}) Stop) → CarriesOut no_value (all_emitted rest) now z r → CarriesOut no_value whole start z r
HasEmitted whole start rest now (Err why) = (z : RunState) → CarriesOut {B = Unit {0}} no_value whole start z (Err why)
