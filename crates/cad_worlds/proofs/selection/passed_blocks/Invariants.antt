use Rattle.std.proofs.Common.{◌-◌, ◌≤◌, [], length, take}
use Rattle.cad_accounts.specs.Memory.{rows_in_blocks}
use Rattle.cad_worlds.specs.Code.Passing.{LeavesOut}
use Rattle.cad_worlds.proofs.selection.passed_blocks.Given as goal

abbrev pub invariant-loop-passed : goal.invariant-loop-passed
invariant-loop-passed l = (l.passed ≤ l.end) × (l.end ≤ length l.blocks) × LeavesOut l.indexes [] (rows_in_blocks (take l.passed l.blocks))

abbrev pub decreases-loop-passed : goal.decreases-loop-passed
decreases-loop-passed l = l.end - l.passed
