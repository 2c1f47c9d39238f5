use Rattle.std.proofs.Common.{◌-◌, ◌≤◌, ◌++◌, List, length, drop}
use Rattle.cad_accounts.specs.declared.row.Row.{Row}
use Rattle.cad_worlds.specs.Code.Passing.{GoesOn}
use Rattle.cad_worlds.specs.RowLists.{rows_at}
use Rattle.cad_worlds.proofs.selection.push_rows.Given as goal

abbrev pub invariant-loop-i : goal.invariant-loop-i
invariant-loop-i l =
    (l.i ≤ length l.rows)
    × ((behind all : List Row) → GoesOn l.indexes (rows_at l.fn.found.items) (l.fn.rows ++ behind) all → GoesOn l.indexes (rows_at l.found.items) (drop l.i l.rows ++ behind) all)

abbrev pub decreases-loop-i : goal.decreases-loop-i
decreases-loop-i l = length l.rows - l.i
