-- What the code finds on the way to an answer.
use Rattle.std.specs.Prelude.{◌≡◌, Bool, true, false, List, Option, Some, None}
use Rattle.serde_json.specs.Data.{Data}
use Rattle.cad_syntax.specs.Types.{PureType}
use Rattle.cad_values.specs.Shapes.{Shapes}
use Rattle.cad_values.specs.Values.{PureValue}
use Rattle.cad_json.specs.Read.{JsonOf}
use Rattle.cad_outcomes.specs.Outcomes.{error_number}
use Rattle.cad_outcomes.specs.declared.stop.Stop.{Stop}
use Rattle.cad_outcomes.specs.declared.stop.Stop.TheVariants.{Failed, Limit, IllTyped, Memory}
use Rattle.cad_world.specs.Rows.{Row, add_last, join}
use Rattle.cad_world.specs.Trees.{tree_of}
use Rattle.cad_runs.specs.Commands.{Reply, failed, limit, ill}
use Rattle.cad_run_worlds.specs.Replies.{AreArguments}

-- whether a JSON stands for a value of the type, which then comes last in the row
abbrev pub Adds : Shapes → PureType → Data → Row → Row → Bool → Type 0
Adds k type json before after true = (v : PureValue) × JsonOf k type v json × (after ≡ add_last (tree_of v) before)
Adds k type json before after false = (v : PureValue) → JsonOf k type v json → ⊥

-- whether each JSON stands for a value of its type; the values then come last in the row
abbrev pub AddsAll : Shapes → List PureType → List Data → Row → Row → Bool → Type 0
AddsAll k types all before after true = (r : Row) × AreArguments k types all r × (after ≡ join before r)
AddsAll k types all before after false = (r : Row) → AreArguments k types all r → ⊥

-- the row of the arguments, where there is one
abbrev pub IsRow : Shapes → List PureType → List Data → Option Row → Type 0
IsRow k types all (Some r) = AreArguments k types all r
IsRow k types all None = (r : Row) → AreArguments k types all r → ⊥

-- what is told of a run that gives no value; nothing where memory ran out
abbrev pub told_stop : Stop → Option (Reply Data)
told_stop (Failed e) = Some (failed (error_number e))
told_stop Limit = Some limit
told_stop IllTyped = Some ill
told_stop Memory = None
