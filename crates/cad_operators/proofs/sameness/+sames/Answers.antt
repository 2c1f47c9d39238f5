use Rattle.std.proofs.Common.{arith, map, sym, ◌∙◌}
use Rattle.cad_rows.specs.Views.{pure_place, pure_row}
use Rattle.cad_values.specs.Values.{pure_value}
use Rattle.cad_world.specs.Same.{all_under}
use Rattle.cad_world.specs.Trees.{keyed, values_in}
use Rattle.cad_operators.proofs.SameLaws.{entries_all, entries_other, entries_next, entries_stop, entries_end, under_found, under_missing}
use Rattle.cad_operators.proofs.sameness.+sames.Goals as goal

pub same_entries-returns-then-a-b : goal.same_entries-returns-then-a-b
same_entries-returns-then-a-b t c =
    entries_other (map pure_value c.args.a_keys.now) (map pure_value c.args.b_keys.now) c.args.a.now c.args.b.now
    (sym c.are_entries.ensures ∙ c.if-not-are_entries.false) (sym c.has_entries.ensures ∙ c.if-not-has_entries.false) c.if-a-b.true

pub same_entries-returns-then-not-branch : goal.same_entries-returns-then-not-branch
same_entries-returns-then-not-branch t c =
    let whole = sym c.are_entries.ensures ∙ c.if-not-are_entries.false in
    let ks = map pure_value c.args.a_keys.now in
    let fs = keyed (map pure_value c.args.b_keys.now) (values_in (pure_row c.args.b.now)) in
    entries_stop c.loop-i.i c.args.a.now c.args.a_keys.now fs (all_under (keyed ks (values_in (pure_row c.args.a.now))) fs) c.in_ok-same_under.field-0 c.index-a-i.result c.index-a_keys-i.result
    c.loop-i-test.true whole c.index-a-i.is c.index-a_keys-i.is c.in_ok-same_under.ensures c.if-not-branch.true c.loop-i.invariant
    ∙ entries_all ks (map pure_value c.args.b_keys.now) c.args.a.now c.args.b.now whole (sym c.has_entries.ensures ∙ c.if-not-has_entries.false) c.if-a-b.false

pub same_entries-loop-i-preserved : goal.same_entries-loop-i-preserved
same_entries-loop-i-preserved t c =
    let fs = keyed (map pure_value c.args.b_keys.now) (values_in (pure_row c.args.b.now)) in
    entries_next c.loop-i.i c.args.a.now c.args.a_keys.now fs (all_under (keyed (map pure_value c.args.a_keys.now) (values_in (pure_row c.args.a.now))) fs) c.in_ok-same_under.field-0 c.index-a-i.result c.index-a_keys-i.result
    c.loop-i-test.true (sym c.are_entries.ensures ∙ c.if-not-are_entries.false) c.index-a-i.is c.index-a_keys-i.is c.in_ok-same_under.ensures c.if-not-branch.false c.loop-i.invariant

pub same_entries-returns : goal.same_entries-returns
same_entries-returns t c =
    let whole = sym c.are_entries.ensures ∙ c.if-not-are_entries.false in
    let ks = map pure_value c.args.a_keys.now in
    let fs = keyed (map pure_value c.args.b_keys.now) (values_in (pure_row c.args.b.now)) in
    entries_end c.loop-i.i c.args.a.now c.args.a_keys.now fs (all_under (keyed ks (values_in (pure_row c.args.a.now))) fs) (omega arith) whole c.loop-i.invariant
    ∙ entries_all ks (map pure_value c.args.b_keys.now) c.args.a.now c.args.b.now whole (sym c.has_entries.ensures ∙ c.if-not-has_entries.false) c.if-a-b.false

pub same_under-returns-in-Ok-Some : goal.same_under-returns-in-Ok-Some
same_under-returns-in-Ok-Some t c =
    under_found c.same_place.result (pure_place c.args.a.now) (pure_value c.args.key.now) (map pure_value c.args.b_keys.now) c.args.b.now c.in-Ok-Some.field-0 c.in-Ok-Some.j c.index-b-j.result
    c.requires c.in-Ok-Some.ensures.value c.in-Ok-Some.field-0-is c.index-b-j.is c.same_place.ensures

pub same_under-returns-in-Ok-None : goal.same_under-returns-in-Ok-None
same_under-returns-in-Ok-None t c =
    under_missing (pure_place c.args.a.now) (pure_value c.args.key.now) (map pure_value c.args.b_keys.now) (map pure_place c.args.b.now) c.in-Ok-None.field-0 c.requires c.in-Ok-None.ensures.value c.in-Ok-None.field-0-is
