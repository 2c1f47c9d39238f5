use Rattle.std.proofs.Common.{◌≡◌, ◌-◌, ◌≤◌, vec_len}
use Rattle.cad_world.specs.Rows as r
use Rattle.cad_rows.specs.Views.{pure_row}
use Rattle.cad_rows.proofs.access.fill_to.Given as goal

abbrev pub invariant-loop-row : goal.invariant-loop-row
invariant-loop-row l = (vec_len l.row ≤ l.wanted) × ((t : r.Tree) → r.put l.wanted t (pure_row l.row.items) ≡ r.put l.wanted t (pure_row l.fn.row.items))

abbrev pub decreases-loop-row : goal.decreases-loop-row
decreases-loop-row l = l.wanted - vec_len l.row
