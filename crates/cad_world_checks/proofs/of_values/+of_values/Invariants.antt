use Rattle.std.proofs.Common.{◌≡◌, drop}
use Rattle.cad_rows.specs.Views.{pure_row}
use Rattle.cad_world_checks.specs.OfValues.{are_of_values}
use Rattle.cad_world_checks.proofs.of_values.+of_values.Given as goal

abbrev pub invariant-row_is_of_values-loop-place : goal.invariant-row_is_of_values-loop-place
invariant-row_is_of_values-loop-place l = are_of_values (pure_row (drop l.place-index l.row)) ≡ are_of_values (pure_row l.row)
