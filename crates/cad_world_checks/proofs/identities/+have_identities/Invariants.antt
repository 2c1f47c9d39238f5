use Rattle.std.proofs.Common.{◌≡◌, drop}
use Rattle.cad_rows.specs.Views.{pure_row}
use Rattle.cad_shapes.specs.Held.{shapes_of}
use Rattle.cad_world.specs.Fits.{have_identities}
use Rattle.cad_world_checks.proofs.identities.+have_identities.Given as goal

abbrev pub invariant-row_has_identities-loop-place : goal.invariant-row_has_identities-loop-place
invariant-row_has_identities-loop-place l = have_identities (shapes_of l.shapes) (pure_row (drop l.place-index l.row)) ≡ have_identities (shapes_of l.shapes) (pure_row l.row)
