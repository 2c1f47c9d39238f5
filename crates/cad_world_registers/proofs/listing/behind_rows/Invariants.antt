use Rattle.std.proofs.Common.{map, drop}
use Rattle.cad_worlds.specs.RowLists.{rows_listed}
use Rattle.cad_worlds.specs.Standing.{register_of}
use Rattle.cad_world_registers.proofs.Listed.{IsLeft}
use Rattle.cad_world_registers.proofs.listing.behind_rows.Given as goal

abbrev pub invariant-loop-row : goal.invariant-loop-row
invariant-loop-row l = IsLeft (map register_of (rows_listed l.list)) (map register_of (rows_listed l.left)) (map register_of l.own) (map register_of (drop l.row-index l.own))
