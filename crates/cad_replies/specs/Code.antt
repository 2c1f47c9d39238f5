-- What the code finds on the way to an answer.
use Rattle.std.specs.Prelude.{List, Option, Some, Result, Ok, Err}
use Rattle.serde_json.specs.Data.{Data}
use Rattle.cad_types.specs.Declarations.{Declaration}
use Rattle.cad_values.specs.Values.{pure_value}
use Rattle.cad_values.specs.declared.value.Value.{Value}
use Rattle.cad_outcomes.specs.declared.stop.Stop.{Stop}
use Rattle.cad_runs.specs.Commands.{Reply}
use Rattle.cad_run_worlds.specs.Code.{told_stop}
use Rattle.cad_run_worlds.specs.Replies.{told_value}

-- what is told of a run
abbrev pub told_of : List Declaration → Result Value Stop → Option (Reply Data)
told_of declared (Ok v) = Some (told_value declared (pure_value v))
told_of declared (Err stop) = told_stop stop
