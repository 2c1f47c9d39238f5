use Rattle.std.proofs.Common.{◌≡◌}
use Rattle.cad_world.specs.Rows.{front}
use Rattle.cad_rows.specs.Views.{pure_row}
use Rattle.cad_making.proofs.rows.keep_front.Given as goal

abbrev pub invariant-loop-row : goal.invariant-loop-row
invariant-loop-row l = front l.n (pure_row l.row.items) ≡ front l.n (pure_row l.fn.row.items)

abbrev pub decreases-loop-row : goal.decreases-loop-row
decreases-loop-row l = goal.left-loop-row l
