use Rattle.std.proofs.Common.{◌≡◌, drop, map}
use Rattle.cad_moves.specs.Code.Tables as table
use Rattle.cad_moves.specs.Views.{row_of, item_of}
use Rattle.cad_moves.proofs.search.+sweeps.Given as goal

abbrev pub invariant-sweep_row-loop-i : goal.invariant-sweep_row-loop-i
invariant-sweep_row-loop-i l = l.found ≡ table.sweep l.rules l.who (row_of (map item_of (drop l.i l.items)))
