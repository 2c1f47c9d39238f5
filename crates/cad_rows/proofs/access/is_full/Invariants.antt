use Rattle.std.proofs.Common.{◌≡◌, drop}
use Rattle.cad_world.specs.Rows as r
use Rattle.cad_rows.specs.Views.{pure_row}
use Rattle.cad_rows.proofs.access.is_full.Given as goal

abbrev pub invariant-loop-place : goal.invariant-loop-place
invariant-loop-place l = r.is_full (pure_row (drop l.place-index l.row)) ≡ r.is_full (pure_row l.row)
