use Rattle.std.proofs.Common.{◌≡◌, drop}
use Rattle.cad_rows.specs.Views.{pure_row}
use Rattle.cad_world.specs.Storable.{is_storable}
use Rattle.cad_transaction_ends.proofs.storable.+storing.Given as goal

abbrev pub invariant-is_storable_row-loop-place : goal.invariant-is_storable_row-loop-place
invariant-is_storable_row-loop-place l = is_storable (pure_row (drop l.place-index l.row)) ≡ is_storable (pure_row l.row)
