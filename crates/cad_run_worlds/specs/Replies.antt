-- What stands for arguments, and what is told of a value.
use Rattle.std.specs.Prelude.{Bool, true, false, List, [], ◌∷◌}
use Rattle.serde_json.specs.Data.{Data}
use Rattle.cad_syntax.specs.Types.{PureType}
use Rattle.cad_types.specs.Declarations.{Declaration}
use Rattle.cad_values.specs.Shapes.{Shapes}
use Rattle.cad_values.specs.Values.{PureValue}
use Rattle.cad_json.specs.Forms.{has_form}
use Rattle.cad_json.specs.Read.{JsonOf}
use Rattle.cad_json.specs.Told.{told}
use Rattle.cad_world.specs.Rows.{Row, stop, first}
use Rattle.cad_world.specs.Trees.{tree_of}
use Rattle.cad_runs.specs.Commands.{Reply, result, failed}

-- JSON for each type, in order, and the row of the values that it stands for
pub data AreArguments (k : Shapes) : List PureType → List Data → Row → Type 0 where
  none : AreArguments k [] [] stop
  one : {type : PureType} {types : List PureType} {json : Data} {all : List Data} {r : Row} (v : PureValue) → JsonOf k type v json → AreArguments k types all r
      → AreArguments k (type ∷ types) (json ∷ all) (first (tree_of v) r)

-- a result that is told: 134 where a part of it has no form
abbrev pub told_if : List Declaration → Bool → PureValue → Reply Data
told_if declared true v = result (told declared v)
told_if declared false v = failed 134

abbrev pub told_value : List Declaration → PureValue → Reply Data
told_value declared v = told_if declared (has_form declared v) v
