use Rattle.std.proofs.Common.{take}
use Rattle.std.specs.List.{All}
use Rattle.cad_fits.specs.Table.{HasToldKey}
use Rattle.cad_fits.proofs.table.are_told.Given as goal

abbrev pub invariant-loop-entry : goal.invariant-loop-entry
invariant-loop-entry l = All HasToldKey (take l.entry-index l.entries)
