use Rattle.cad_rows.proofs.Stripped.{AreBare}
use Rattle.cad_rows.proofs.bare.+strips.Given as goal

abbrev pub invariant-strip_row-loop-i : goal.invariant-strip_row-loop-i
invariant-strip_row-loop-i l = goal.unvisited-strip_row-loop-i l × AreBare l.i l.row.items l.fn.row.items
