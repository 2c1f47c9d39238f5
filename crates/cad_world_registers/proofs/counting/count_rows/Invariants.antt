use Rattle.std.proofs.Common.{◌≡◌, ◌+◌, length, drop}
use Rattle.cad_accounts.specs.Memory.{rows_in_blocks}
use Rattle.cad_worlds.specs.RowLists.{rows_listed}
use Rattle.cad_world_registers.proofs.counting.count_rows.Given as goal

abbrev pub invariant-loop-block : goal.invariant-loop-block
invariant-loop-block l = l.count + length (rows_in_blocks (drop l.block-index l.fn.list.blocks.now)) ≡ length (rows_listed l.fn.list)
