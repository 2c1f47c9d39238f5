use Rattle.std.proofs.Common.{◌≢◌, ◌<◌, List, sym, ap, ◌∙◌, subst}
use Rattle.std.proofs.lemmas.Bool.{false≢true}
use Rattle.cad_types.specs.Code.Views.{listed}
use Rattle.cad_types.specs.Code.Judged.{refined, IsAtLeast}
use Rattle.cad_types.specs.declared.marks.Marks.{Marks}
use Rattle.cad_types.proofs.Judging.{at_least_after, fewer_after, trues}
use Rattle.cad_types.proofs.marks.judge.Goals as goal

pub loop-marks-smaller : goal.loop-marks-smaller
loop-marks-smaller c =
    let k = listed c.args.table.now in
    let marks = c.loop-marks.marks.items in
    let next_is = c.in_ok-next.ensures ∙ ap (λ (ms : List Marks). refined k ms) c.as_slice.ensures.value in
    let changed : refined k marks ≢ marks = λ same. false≢true (sym c.if-same_marks.false
    ∙ c.same_marks.ensures.1 (c.as_slice-in-loop-marks.ensures.value ∙ next_is ∙ same ∙ sym c.as_slice-in-loop-marks-2.ensures.value)) in
    subst (λ (ms : List Marks). trues ms < trues marks) (sym next_is) (fewer_after k marks c.loop-marks.invariant.whole changed)

pub loop-marks-preserved : goal.loop-marks-preserved
loop-marks-preserved c =
    let k = listed c.args.table.now in
    let marks = c.loop-marks.marks.items in
    let next_is = c.in_ok-next.ensures ∙ ap (λ (ms : List Marks). refined k ms) c.as_slice.ensures.value in
    subst (λ (ms : List Marks). IsAtLeast k ms) (sym next_is) (at_least_after k marks c.loop-marks.invariant)
