use Rattle.std.proofs.Common.{◌++◌, ◌∙◌, List, ap, drop, map}
use Rattle.std.specs.Prelude.{option_map}
use Rattle.cad_accounts.specs.declared.row.Row.{Row}
use Rattle.cad_worlds.proofs.Leading.{merge_end}
use Rattle.cad_worlds.proofs.References.{left_at}
use Rattle.cad_worlds.specs.Merging.{is_compared, chosen, removal}
use Rattle.cad_worlds.specs.RowLists.{rows_at}
use Rattle.cad_worlds.proofs.merging.merge.Goals as goal

pub returns : goal.returns
returns c =
    let p = is_compared (option_map (λ k. k.now) c.args.known) in
    let old = c.args.old.now in
    let gone = c.in_ok-gone.gone in
    let left = left_at old c.rows_from.result.now gone c.rows_from.ensures in
    merge_end (chosen p (rows_at old)) (chosen p (drop gone (rows_at old))) c.args.new.items c.new-changes.result c.take_rows.new.changes c.remove_all.new.changes c.new-changes.ensures c.in_ok-gone.ensures.changes
    (c.in_ok-remove_all.ensures ∙ ap (λ (l : List Row). c.take_rows.new.changes ++ map removal (chosen p l)) left)
