use Rattle.std.proofs.Common.{◌≡◌, drop}
use Rattle.cad_world.specs.Rows as r
use Rattle.cad_rows.specs.Views.{pure_row}
use Rattle.cad_rows.proofs.owned.+owning.Given as goal

abbrev pub invariant-row_owns-loop-place : goal.invariant-row_owns-loop-place
invariant-row_owns-loop-place l = r.owns (pure_row (drop l.place-index l.row)) ≡ r.owns (pure_row l.row)
