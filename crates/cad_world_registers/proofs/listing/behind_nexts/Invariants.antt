use Rattle.std.proofs.Common.{map}
use Rattle.cad_worlds.specs.RowLists.{rows_listed}
use Rattle.cad_worlds.specs.Standing.{register_of}
use Rattle.cad_world_registers.proofs.Listed.{IsLeft, nexts_from}
use Rattle.cad_world_registers.proofs.listing.behind_nexts.Given as goal

abbrev pub invariant-loop-i : goal.invariant-loop-i
invariant-loop-i l = IsLeft (map register_of (rows_listed l.list)) (map register_of (rows_listed l.left)) (nexts_from l.accounts 0) (nexts_from l.accounts l.i)
