use Rattle.std.proofs.Common.{◌-◌, ◌≤◌, [], length, take}
use Rattle.cad_worlds.specs.Code.Passing.{LeavesOut}
use Rattle.cad_worlds.proofs.selection.passed_rows.Given as goal

abbrev pub invariant-loop-passed : goal.invariant-loop-passed
invariant-loop-passed l = (l.passed ≤ l.end) × (l.end ≤ length l.rows) × LeavesOut l.indexes [] (take l.passed l.rows)

abbrev pub decreases-loop-passed : goal.decreases-loop-passed
decreases-loop-passed l = l.end - l.passed
