use Rattle.std.proofs.Common.{◌≡◌, drop}
use Rattle.std.specs.List.{AllByRecursion}
use Rattle.cad_accounts.specs.Memory.{rows_in_blocks}
use Rattle.cad_world_registers.specs.Exact.{RowFits}
use Rattle.cad_world_registers.specs.Listed.{rise_behind}
use Rattle.cad_world_registers.proofs.rising.blocks_rise.Given as goal

abbrev pub invariant-loop-block : goal.invariant-loop-block
invariant-loop-block l = record {
  rise : rise_behind l.key (rows_in_blocks l.blocks) ≡ rise_behind l.last (rows_in_blocks (drop l.block-index l.blocks));
  fit : AllByRecursion RowFits (rows_in_blocks (drop l.block-index l.blocks)) → AllByRecursion RowFits (rows_in_blocks l.blocks);
}
