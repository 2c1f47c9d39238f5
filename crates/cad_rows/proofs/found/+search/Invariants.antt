use Rattle.std.proofs.Common.{◌≡◌, drop}
use Rattle.cad_rows.specs.Views.{pure_row}
use Rattle.cad_rows.specs.Ways.{way_from}
use Rattle.cad_rows.proofs.found.+search.Given as goal

abbrev pub invariant-way_up-loop-i : goal.invariant-way_up-loop-i
invariant-way_up-loop-i l = way_from l.label l.i (pure_row (drop l.i l.row)) ≡ way_from l.label 0 (pure_row l.row)
