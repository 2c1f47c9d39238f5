-- What is always true of keys with an index.
use Rattle.std.specs.Global.{Box}
use Rattle.std.specs.Prelude.{List, Option, Some, None}
use Rattle.cad_values.specs.declared.value.Value.{Value}
use Rattle.cad_keys.specs.Code.Found.{Fits}
use Rattle.cad_keys.specs.declared.index.Index.{Index}

-- where there is an index, it is that of these keys
abbrev pub IsKept : Option (Box Index) → List Value → Type 0
IsKept None rows = Unit {0}
IsKept (Some index) rows = Fits index.value rows
