use Rattle.std.proofs.Common.{◌≡◌, ◌++◌, drop}
use Rattle.cad_accounts.specs.Memory.{rows_in_blocks}
use Rattle.cad_worlds.specs.RowLists.{rows_at}
use Rattle.cad_worlds.proofs.merging.all_rows.Given as goal

abbrev pub invariant-loop-block : goal.invariant-loop-block
invariant-loop-block l = rows_at l.all.items ++ rows_in_blocks (drop l.block-index l.blocks) ≡ rows_in_blocks l.blocks
