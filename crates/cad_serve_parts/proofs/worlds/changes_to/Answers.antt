use Rattle.std.proofs.Common.{List, subst}
use Rattle.cad_accounts.specs.Registers.{at, Leads}
use Rattle.cad_accounts.specs.declared.row.Row.{Row}
use Rattle.cad_serve_parts.proofs.Results.{if_ok}
use Rattle.cad_serve_parts.proofs.worlds.changes_to.Goals as goal

pub returns : goal.returns
returns c =
    let h = c.in_ok-rows.ensures.becomes in
    if_ok c.changes.result
    (λ changes leads.
    (at c.in_ok-rows.rows.items, subst (λ (rows : List Row). Leads (at rows) (at c.in_ok-rows.rows.items) changes) c.blocks-2.ensures.rows leads, h.0, h.1, h.2))
    c.changes.ensures
