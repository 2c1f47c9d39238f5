use Rattle.std.proofs.Common.{◌≡◌, ◌<◌, ◌^◌, ◌-◌, min, max, drop}
use Rattle.cad_world.specs.Trees as spec
use Rattle.cad_rows.specs.Views.{pure_row}
use Rattle.cad_rows.proofs.size.+heights.Given as goal

abbrev pub invariant-row_height-loop-place : goal.invariant-row_height-loop-place
invariant-row_height-loop-place l =
    (min (max l.highest (spec.row_height (pure_row (drop l.place-index l.row)))) (2 ^ 64 - 1) ≡ min (spec.row_height (pure_row l.row)) (2 ^ 64 - 1)) × (l.highest < 2 ^ 64)
