use Rattle.std.proofs.Common.{◌++◌, map}
use Rattle.std.specs.Prelude.{option_map}
use Rattle.cad_worlds.proofs.Choosing.{Goes}
use Rattle.cad_worlds.specs.Merging.{is_compared, chosen, removal, in_front}
use Rattle.cad_worlds.specs.RowLists.{rows_at}
use Rattle.cad_worlds.proofs.merging.remove_before.Given as goal

abbrev pub invariant-loop-i : goal.invariant-loop-i
invariant-loop-i l =
    let p = is_compared (option_map (λ k. k.now) l.known) in
    Goes p l.key (rows_at l.rows) l.i l.changes (l.fn.changes ++ map removal (in_front l.key (chosen p (rows_at l.rows))))
