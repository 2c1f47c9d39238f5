use Rattle.std.proofs.Common.{◌∙◌, ◌++◌, ℕ, List, ap, sym, map, drop, drop-drop, append_assoc}
use Rattle.std.specs.Prelude.{option_map}
use Rattle.cad_accounts.specs.declared.row.Row.{Row}
use Rattle.cad_worlds.proofs.Lists.{ahead_of}
use Rattle.cad_worlds.proofs.References.{left_at}
use Rattle.cad_worlds.specs.Merging.{is_compared, chosen, removal, in_front, left_from, behind, own}
use Rattle.cad_worlds.specs.RowLists.{rows_at}
use Rattle.cad_worlds.proofs.merging.take_row.Goals as goal

pub returns-clause-few : goal.returns-clause-few
returns-clause-few c = ahead_of c.args.rows.now c.rows_from-there.result.now c.in_ok-gone.gone c.count_of-count.result c.rows_from-there.ensures c.in_ok-gone.ensures.few c.count_of-count.ensures.few

pub returns-clause-left : goal.returns-clause-left
returns-clause-left c =
    let p = is_compared (option_map (λ k. k.now) c.args.known) in
    let rows = rows_at c.args.rows.now in
    let gone = c.in_ok-gone.gone in
    let count = c.count_of-count.result in
    let front = left_at c.args.rows.now c.rows_from-there.result.now gone c.rows_from-there.ensures in
    let there = front ∙ c.in_ok-gone.ensures.left ∙ ap (λ (k : List ℕ). left_from p k rows) c.as_slice.ensures in
    sym (drop-drop count gone rows) ∙ ap (λ (l : List Row). drop count l) (sym front) ∙ c.count_of-count.ensures.behind ∙ (λ i. behind (c.as_slice-2.ensures i) (there i))

pub returns-clause-changes : goal.returns-clause-changes
returns-clause-changes c =
    let p = is_compared (option_map (λ k. k.now) c.args.known) in
    let rows = rows_at c.args.rows.now in
    let row = c.args.row in
    let now = c.args.changes.now in
    let front = left_at c.args.rows.now c.rows_from-there.result.now c.in_ok-gone.gone c.rows_from-there.ensures in
    let there = front ∙ c.in_ok-gone.ensures.left ∙ ap (λ (k : List ℕ). left_from p k rows) c.as_slice.ensures in
    let removed = c.in_ok-gone.ensures.changes ∙ ap (λ (k : List ℕ). now ++ map removal (in_front k (chosen p rows))) c.as_slice.ensures in
    c.in_ok-push_row.ensures ∙ (λ i. removed i ++ own (there i) row) ∙ append_assoc now (map removal (in_front row.key.0 (chosen p rows))) (own (left_from p row.key.0 rows) row)
