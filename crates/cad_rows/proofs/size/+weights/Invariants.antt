use Rattle.std.proofs.Common.{◌≡◌, ◌<◌, ◌^◌, ◌-◌, ◌+◌, min, drop}
use Rattle.cad_world.specs.Trees as spec
use Rattle.cad_rows.specs.Views.{pure_row}
use Rattle.cad_rows.proofs.size.+weights.Given as goal

abbrev pub invariant-row_weight-loop-place : goal.invariant-row_weight-loop-place
invariant-row_weight-loop-place l =
    (min (l.total + spec.row_weight (pure_row (drop l.place-index l.row))) (2 ^ 64 - 1) ≡ min (spec.row_weight (pure_row l.row)) (2 ^ 64 - 1)) × (l.total < 2 ^ 64)
