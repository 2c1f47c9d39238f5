use Rattle.std.proofs.Common.{List, sym, ap, subst, ◌∙◌}
use Rattle.cad_accounts.specs.Memory.{rows_in_blocks}
use Rattle.cad_accounts.specs.Registers.{Leads, at}
use Rattle.cad_accounts.specs.declared.row.Row.{Row}
use Rattle.cad_worlds.proofs.Choosing.{all_compared}
use Rattle.cad_worlds.proofs.Leading.{merged_leads}
use Rattle.cad_worlds.specs.Merging.{merged}
use Rattle.cad_worlds.specs.RowLists.{rows_at}
use Rattle.cad_worlds.proofs.merging.changes.Goals as goal

pub returns : goal.returns
returns c =
    let old = rows_in_blocks c.args.old.now in
    let items = c.args.new.items in
    let all = all_compared (rows_at c.as_slice.result.now) ∙ ap rows_at c.as_slice.ensures.value ∙ c.in_ok-rows.ensures in
    subst (Leads (at old) (at items)) (sym (c.in_ok-entries.ensures ∙ ap (λ (os : List Row). merged os items) all)) (merged_leads old items c.requires.old c.requires.new)
