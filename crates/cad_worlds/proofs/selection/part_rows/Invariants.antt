use Rattle.std.proofs.Common.{◌-◌, ◌≤◌, length, drop}
use Rattle.cad_accounts.specs.Memory.{rows_in_blocks}
use Rattle.cad_worlds.specs.Code.Passing.{GoesOn}
use Rattle.cad_worlds.specs.RowLists.{rows_at}
use Rattle.cad_worlds.proofs.selection.part_rows.Given as goal

abbrev pub invariant-loop-at : goal.invariant-loop-at
invariant-loop-at l = (l.at ≤ length l.blocks) × GoesOn l.indexes (rows_at l.found.items) (rows_in_blocks (drop l.at l.blocks)) (rows_in_blocks l.blocks)

abbrev pub decreases-loop-at : goal.decreases-loop-at
decreases-loop-at l = length l.blocks - l.at
