use Rattle.std.proofs.Common.{◌++◌, ◌∙◌, List, suc, map, sym, subst, add-one, arith}
use Rattle.std.specs.Prelude.{option_map}
use Rattle.cad_wire.specs.declared.entry.Entry.{Entry}
use Rattle.cad_worlds.proofs.Choosing.{Goes, go_turn, go_else, stop_left, stop_changes, go_end_left, go_end_changes}
use Rattle.cad_worlds.proofs.References.{inside_at, outside_at, item_at, all_left}
use Rattle.cad_worlds.specs.Merging.{is_compared, chosen, removal, in_front}
use Rattle.cad_worlds.specs.RowLists.{rows_at}
use Rattle.cad_worlds.proofs.merging.remove_before.Goals.{then-is_compared+else-not-is_before+in_ok-push_removal, else-is_compared}
use Rattle.cad_worlds.proofs.merging.remove_before.Goals as goal

pub returns-then-not-is_before-clause-left : goal.returns-then-not-is_before-clause-left
returns-then-not-is_before-clause-left c =
    let p = is_compared (option_map (λ k. k.now) c.args.known) in
    let rows = c.args.rows.now in
    let i = c.loop-i.i in
    let key = c.args.key.now in
    let all = c.args.changes.now ++ map removal (in_front key (chosen p (rows_at rows))) in
    stop_left p key (rows_at rows) i c.index-rows-i.result.now c.loop-i.changes all (inside_at rows i c.loop-i-test.true) (item_at rows i c.index-rows-i.result c.index-rows-i.is) (sym c.is_compared.ensures ∙ c.if-is_compared.true) (sym c.is_before.ensures ∙ c.if-not-is_before.true) c.loop-i.invariant

pub returns-then-not-is_before-clause-changes : goal.returns-then-not-is_before-clause-changes
returns-then-not-is_before-clause-changes c =
    let p = is_compared (option_map (λ k. k.now) c.args.known) in
    let rows = c.args.rows.now in
    let i = c.loop-i.i in
    let key = c.args.key.now in
    let all = c.args.changes.now ++ map removal (in_front key (chosen p (rows_at rows))) in
    stop_changes p key (rows_at rows) i c.index-rows-i.result.now c.loop-i.changes all (inside_at rows i c.loop-i-test.true) (item_at rows i c.index-rows-i.result c.index-rows-i.is) (sym c.is_compared.ensures ∙ c.if-is_compared.true) (sym c.is_before.ensures ∙ c.if-not-is_before.true) c.loop-i.invariant

pub loop-i-preserved : goal.loop-i-preserved
loop-i-preserved c =
    let p = is_compared (option_map (λ k. k.now) c.args.known) in
    let all_rows = c.args.rows.now in
    let rows = rows_at all_rows in
    let i = c.loop-i.i in
    let r = c.index-rows-i.result.now in
    let inside = inside_at all_rows i c.loop-i-test.true in
    let is = item_at all_rows i c.index-rows-i.result c.index-rows-i.is in
    let key = c.args.key.now in
    let all = c.args.changes.now ++ map removal (in_front key (chosen p rows)) in
    rw add-one (elim c.if-is_compared.branch [
      | then-is_compared+else-not-is_before+in_ok-push_removal w ↦ go_turn p key rows i r c.loop-i.changes c.if-is_compared.changes all inside is (sym c.is_compared.ensures ∙ w.if-is_compared.true) (sym w.is_before.ensures ∙ w.if-not-is_before.false) c.loop-i.invariant (w.changes-is ∙ w.in_ok-push_removal.ensures)
      | else-is_compared w ↦ subst (λ (z : List Entry). Goes p key rows (suc i) z all) (sym w.changes-is) (go_else p key rows i r c.loop-i.changes all inside is (sym c.is_compared.ensures ∙ w.if-is_compared.false) c.loop-i.invariant)
    ])

pub returns-clause-left : goal.returns-clause-left
returns-clause-left c =
    let p = is_compared (option_map (λ k. k.now) c.args.known) in
    let rows = c.args.rows.now in
    let key = c.args.key.now in
    let all = c.args.changes.now ++ map removal (in_front key (chosen p (rows_at rows))) in
    all_left rows ∙ go_end_left p key (rows_at rows) c.loop-i.i c.loop-i.changes all (outside_at rows c.loop-i.i (omega arith)) c.loop-i.invariant

pub returns-clause-changes : goal.returns-clause-changes
returns-clause-changes c =
    let p = is_compared (option_map (λ k. k.now) c.args.known) in
    let rows = c.args.rows.now in
    let key = c.args.key.now in
    let all = c.args.changes.now ++ map removal (in_front key (chosen p (rows_at rows))) in
    go_end_changes p key (rows_at rows) c.loop-i.i c.loop-i.changes all (outside_at rows c.loop-i.i (omega arith)) c.loop-i.invariant
