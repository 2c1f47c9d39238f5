-- What a run that may leave another World comes to: the reply, and the World.
use Rattle.std.specs.Prelude.{map}
use Rattle.serde_json.specs.Data.{Data}
use Rattle.cad_json.specs.Told.{told}
use Rattle.cad_values.specs.Shapes.{declarations}
use Rattle.cad_world.specs.Begin.{left_world}
use Rattle.cad_world.specs.Shapes.{shapes}
use Rattle.cad_world.specs.State as run
use Rattle.cad_world.specs.State.{State, World}
use Rattle.cad_runs.specs.Commands.{Reply, ran, failed, limit, ill}

-- what a command comes to: a reply, and the World where it becomes another
pub data Outcome : Type 0 where
  stays : Reply Data → Outcome
  leads : Reply Data → World → Outcome

-- what was made and destroyed, and the events as JSON, by what the contracts of the state declare
abbrev pub receipt : State → Reply Data
receipt s = ran s.made s.destroyed (map (told (declarations (shapes s.contracts))) s.events)

-- the World that the state leaves, or the one before
abbrev pub settled : run.Outcome (Unit {0}) → Outcome
settled (run.ok u s) = leads (receipt s) (left_world s)
settled (run.failed n) = stays (failed n)
settled run.limit = stays limit
settled run.ill = stays ill
