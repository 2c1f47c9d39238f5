use Rattle.std.proofs.Common.{◌≡◌, ◌≤◌, ◌++◌, List, length, drop}
use Rattle.std.specs.Prelude.{option_map}
use Rattle.cad_accounts.specs.declared.row.Row.{Row}
use Rattle.cad_worlds.specs.Merging.{is_compared, chosen, merged}
use Rattle.cad_worlds.specs.RowLists.{rows_at}
use Rattle.cad_worlds.proofs.merging.take_rows.Given as goal

abbrev pub invariant-loop-row : goal.invariant-loop-row
invariant-loop-row l =
    let p = is_compared (option_map (λ k. k.now) l.known) in
    (l.gone ≤ length l.old)
    × ((rest : List Row) → l.changes ++ merged (chosen p (drop l.gone (rows_at l.old))) rest ≡ l.fn.changes ++ merged (chosen p (rows_at l.old)) (l.yielded ++ rest))
