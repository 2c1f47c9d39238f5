use Rattle.std.proofs.Common.{drop}
use Rattle.std.specs.List.{AllByRecursion}
use Rattle.cad_world_registers.proofs.Listed.{RiseFrom}
use Rattle.cad_world_registers.specs.Exact.{RowFits}
use Rattle.cad_world_registers.proofs.rising.last_key.Given as goal

abbrev pub invariant-loop-row : goal.invariant-loop-row
invariant-loop-row l = record {
  rise : RiseFrom l.key l.rows l.last (drop l.row-index l.rows);
  fit : AllByRecursion RowFits (drop l.row-index l.rows) → AllByRecursion RowFits l.rows;
}
