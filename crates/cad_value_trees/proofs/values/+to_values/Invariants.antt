use Rattle.std.proofs.Common.{◌≡◌, ◌++◌, map, drop}
use Rattle.cad_values.specs.Values.{pure_value}
use Rattle.cad_rows.specs.Views.{pure_row}
use Rattle.cad_value_trees.proofs.ValueLaws.{listed}
use Rattle.cad_value_trees.proofs.values.+to_values.Given as goal

abbrev pub invariant-values_from_row-loop-place : goal.invariant-values_from_row-loop-place
invariant-values_from_row-loop-place l = map pure_value l.values.items ++ listed (pure_row (drop l.place-index l.row)) ≡ listed (pure_row l.row)
