use Rattle.std.proofs.Common.{◌≡◌, map, drop}
use Rattle.cad_worlds.specs.RowLists.{rows_at}
use Rattle.cad_worlds.specs.Standing.{register_of}
use Rattle.cad_world_registers.specs.Code.PartDrafts.{part_of, take_all}
use Rattle.cad_world_registers.proofs.part_draft.take_rows.Given as goal

abbrev pub invariant-loop-row : goal.invariant-loop-row
invariant-loop-row l = take_all l.wanted (map register_of (drop l.row-index (rows_at l.rows))) (part_of l.draft) ≡ take_all l.wanted (map register_of (rows_at l.rows)) (part_of l.fn.draft)
