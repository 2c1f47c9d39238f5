use Rattle.std.proofs.Common.{◌≡◌, drop, map, option_map}
use Rattle.std.specs.Prelude.{None}
use Rattle.cad_moves.specs.Code.Tables as table
use Rattle.cad_moves.specs.Code.Firsts as spec
use Rattle.cad_moves.specs.Views.{row_of, item_of, offence_of}
use Rattle.cad_moves.proofs.search.+searches.Given as goal

abbrev pub invariant-search_row-loop-i : goal.invariant-search_row-loop-i
invariant-search_row-loop-i l = (option_map offence_of l.best ≡ spec.first_of l.rules (row_of (map item_of (drop l.i l.items))))
    × (l.silent ≡ table.sweep l.rules None (row_of (map item_of (drop l.i l.items))))
