use Rattle.std.proofs.Common.{◌≡◌, map, drop}
use Rattle.cad_paths.specs.Letters as spec
use Rattle.cad_moves.specs.Views.{item_of}
use Rattle.cad_moves.specs.Code.Rows.{row_over}
use Rattle.cad_moves.proofs.leaf.all_needed.Given as goal

abbrev pub invariant-loop-i : goal.invariant-loop-i
invariant-loop-i l = row_over (map item_of l.items.items) (spec.all_needed l.i (drop l.i l.fields) l.at) ≡ spec.all_needed 0 l.fields l.at
