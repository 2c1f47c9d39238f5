-- Tests of what single accounts store.
use Rattle.std.specs.Prelude.{Bool, true, Option, Some, None}
use Rattle.cad_rows.specs.Views.{pure_row}
use Rattle.cad_state.specs.declared.state.Account.{Account}
use Rattle.cad_world.specs.Rows.{Row}

-- whether what an account stores passes a test, if it is there
abbrev pub passes : (Row → Bool) → Option Account → Bool
passes test None = true
passes test (Some a) = test (pure_row a.stored.items)
