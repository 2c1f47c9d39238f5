-- The value of a contract in which no field is set.
use Rattle.std.specs.Prelude.{ℕ}
use Rattle.cad_evaluation.specs.Adding.{with_empty_value}
use Rattle.cad_world.specs.Rows.{Row}
use Rattle.cad_world.specs.State.{Contract}

abbrev pub unset_row : ℕ → Contract → Row
unset_row l c = (with_empty_value l c).value
