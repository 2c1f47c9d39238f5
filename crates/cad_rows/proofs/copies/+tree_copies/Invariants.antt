use Rattle.std.proofs.Common.{◌≡◌, drop}
use Rattle.cad_world.specs.Rows as r
use Rattle.cad_rows.specs.Views.{pure_row}
use Rattle.cad_rows.proofs.copies.+tree_copies.Given as goal

abbrev pub invariant-push_copies-loop-place : goal.invariant-push_copies-loop-place
invariant-push_copies-loop-place l = r.join (pure_row l.copies.items) (r.bare (pure_row (drop l.place-index l.row))) ≡ r.join (pure_row l.fn.copies.items) (r.bare (pure_row l.row))
