use Rattle.std.proofs.Common.{◌≡◌, drop}
use Rattle.cad_rows.specs.Views.{pure_row}
use Rattle.cad_world.specs.Rows.{is_full}
use Rattle.cad_operators.proofs.heads.are_full.Given as goal

abbrev pub invariant-loop-place : goal.invariant-loop-place
invariant-loop-place l = is_full (pure_row (drop l.place-index l.row)) ≡ is_full (pure_row l.row)
