use Rattle.std.proofs.Common.{◌∙◌, ◌+◌, ◌++◌, List, drop, map, sym, ap, drop-drop}
use Rattle.std.specs.Prelude.{option_map}
use Rattle.cad_accounts.specs.declared.row.Row.{Row}
use Rattle.cad_worlds.proofs.Choosing.{chosen_turn}
use Rattle.cad_worlds.proofs.Lists.{ahead_of}
use Rattle.cad_worlds.proofs.References.{left_at}
use Rattle.cad_worlds.specs.Merging.{is_compared, chosen, removal, in_front, left_from, behind, own, merged}
use Rattle.cad_worlds.specs.RowLists.{rows_at}
use Rattle.cad_worlds.proofs.merging.take_rows.Goals as goal

pub loop-row-preserved : goal.loop-row-preserved
loop-row-preserved c =
    let p = is_compared (option_map (λ k. k.now) c.args.known) in
    let old = c.args.old.now in
    let rows = rows_at old in
    let gone = c.loop-row.gone in
    let more = c.in_ok-more.more in
    let row = c.in-Some.row in
    let key = row.key.0 in
    let now = c.loop-row.changes in
    let there = left_at old c.rows_from.result.now gone c.rows_from.ensures in
    let next = sym (drop-drop more gone rows) ∙ ap (λ (l : List Row). drop more l) (sym there) ∙ c.in_ok-more.ensures.left ∙ ap (λ (l : List Row). behind key (left_from p key l)) there in
    let grown = c.in_ok-more.ensures.changes ∙ ap (λ (l : List Row). now ++ (map removal (in_front key (chosen p l)) ++ own (left_from p key l) row)) there in (
      ahead_of old c.rows_from.result.now gone more c.rows_from.ensures c.loop-row.invariant.0 c.in_ok-more.ensures.few,
      λ rest. chosen_turn p (λ xs. c.args.changes.now ++ merged (chosen p rows) xs) (drop gone rows) (drop (gone + more) rows) c.loop-row.yielded row now c.take_row.new.changes c.loop-row.invariant.1 next grown rest,
    )
