use Rattle.std.proofs.Common.{◌≡◌, drop}
use Rattle.cad_calls.specs.Unnamed as spec
use Rattle.cad_rows.specs.Views.{pure_row}
use Rattle.cad_calls.proofs.unlabelled.+names.Given as goal

abbrev pub invariant-is_unnamed-loop-place : goal.invariant-is_unnamed-loop-place
invariant-is_unnamed-loop-place l = spec.unnamed (pure_row (drop l.place-index l.row)) ≡ spec.unnamed (pure_row l.row)
