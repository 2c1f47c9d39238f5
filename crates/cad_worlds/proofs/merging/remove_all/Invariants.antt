use Rattle.std.proofs.Common.{◌≡◌, ◌++◌, map, drop}
use Rattle.std.specs.Prelude.{option_map}
use Rattle.cad_worlds.specs.Merging.{is_compared, chosen, removal}
use Rattle.cad_worlds.specs.RowLists.{rows_at}
use Rattle.cad_worlds.proofs.merging.remove_all.Given as goal

abbrev pub invariant-loop-row : goal.invariant-loop-row
invariant-loop-row l =
    let p = is_compared (option_map (λ k. k.now) l.known) in
    l.changes ++ map removal (chosen p (drop l.row-index (rows_at l.rows))) ≡ l.fn.changes ++ map removal (chosen p (rows_at l.rows))
