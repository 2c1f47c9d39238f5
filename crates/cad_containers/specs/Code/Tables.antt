-- What a dictionary literal comes to pair by pair.
use Rattle.std.specs.Prelude.{◌≡◌, List, Result, Ok, Err, map}
use Rattle.cad_syntax.specs.Types.{PureType}
use Rattle.cad_types.specs.Declarations.{resource}
use Rattle.cad_rows.specs.Views.{pure_row}
use Rattle.cad_values.specs.Values.{pure_value}
use Rattle.cad_world.specs.Declared.{declarations}
use Rattle.cad_world.specs.Locations.{key_position}
use Rattle.cad_world.specs.State.{State, Outcome, Action}
use Rattle.cad_world.specs.Trees.{value_of}
use Rattle.cad_evaluation.specs.Uses as uses
use Rattle.cad_outcomes.specs.Outcomes.{Does, Stops}
use Rattle.cad_outcomes.specs.declared.stop.Stop.{Stop}
use Rattle.cad_containers.specs.declared.literals.Table.{Table}

abbrev pub pure_table : Table → uses.Table
pure_table t = record { keys = map pure_value t.keys; values = pure_row t.values.items }

-- a pair comes to a table
abbrev pub with_pair : PureType → uses.Table → uses.Pair → Action uses.Table
with_pair value table p = λ s. uses.with_key (resource (declarations s) value) table p (key_position (value_of p.key) table.keys) s

-- pairs come to a table
abbrev pub with_all : PureType → uses.Table → List uses.Pair → Action uses.Table
with_all value table ps = λ s. uses.with_pairs (resource (declarations s) value) table ps s

-- a pair comes to what the pairs before it came to
abbrev pub Adds : PureType → State → Result Table Stop → uses.Pair → Result Table Stop → Type 0
Adds value s (Ok table) p r = Does pure_table (with_pair value (pure_table table) p) s s r
Adds value s (Err stop) p r = r ≡ Err stop

-- what all pairs come to, where some are done and others are left
abbrev pub Reaches : PureType → State → Outcome uses.Table → Result Table Stop → List uses.Pair → Type 0
Reaches value s all (Ok table) left = all ≡ with_all value (pure_table table) left s
Reaches value s all (Err stop) left = Stops all stop
