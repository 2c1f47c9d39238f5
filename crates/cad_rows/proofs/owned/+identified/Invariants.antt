use Rattle.std.proofs.Common.{◌≡◌, ◌++◌, drop}
use Rattle.cad_world.specs.Rows as r
use Rattle.cad_rows.specs.Views.{pure_row}
use Rattle.cad_rows.proofs.owned.+identified.Given as goal

abbrev pub invariant-add_row_identities-loop-place : goal.invariant-add_row_identities-loop-place
invariant-add_row_identities-loop-place l = l.found ++ r.identities (pure_row (drop l.place-index l.row)) ≡ l.fn.found ++ r.identities (pure_row l.row)
