use Rattle.std.proofs.Common.{◌≡◌, ◌++◌, ◌∙◌, List, suc, map, drop, sym, subst, add-one, arith}
use Rattle.std.specs.Prelude.{option_map}
use Rattle.cad_wire.specs.declared.entry.Entry.{Entry}
use Rattle.cad_worlds.proofs.Choosing.{removal_turn, removal_else, removal_end}
use Rattle.cad_worlds.proofs.References.{inside_at, outside_at, item_at}
use Rattle.cad_worlds.specs.Merging.{is_compared, chosen, removal}
use Rattle.cad_worlds.specs.RowLists.{rows_at}
use Rattle.cad_worlds.proofs.merging.remove_all.Goals.{then-is_compared+in_ok-push_removal, else-is_compared}
use Rattle.cad_worlds.proofs.merging.remove_all.Goals as goal

pub loop-row-preserved : goal.loop-row-preserved
loop-row-preserved c =
    let p = is_compared (option_map (λ k. k.now) c.args.known) in
    let all_rows = c.args.rows.now in
    let rows = rows_at all_rows in
    let i = c.loop-row.row-index in
    let r = c.row-item.result.now in
    let inside = inside_at all_rows i c.loop-row-test.true in
    let is = item_at all_rows i c.row-item.result c.row-item.is in
    let all = c.args.changes.now ++ map removal (chosen p rows) in
    rw add-one (elim c.if-is_compared.branch [
      | then-is_compared+in_ok-push_removal w ↦ removal_turn p rows i r c.loop-row.changes c.if-is_compared.changes all inside is (sym c.is_compared.ensures ∙ w.if-is_compared.true) c.loop-row.invariant (w.changes-is ∙ w.in_ok-push_removal.ensures)
      | else-is_compared w ↦ subst (λ (z : List Entry). z ++ map removal (chosen p (drop (suc i) rows)) ≡ all) (sym w.changes-is) (removal_else p rows i r c.loop-row.changes all inside is (sym c.is_compared.ensures ∙ w.if-is_compared.false) c.loop-row.invariant)
    ])

pub returns : goal.returns
returns c =
    let p = is_compared (option_map (λ k. k.now) c.args.known) in
    let rows = rows_at c.args.rows.now in
    removal_end p rows c.loop-row.row-index c.loop-row.changes (c.args.changes.now ++ map removal (chosen p rows)) (outside_at c.args.rows.now c.loop-row.row-index (omega arith)) c.loop-row.invariant
