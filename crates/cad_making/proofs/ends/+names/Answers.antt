use Rattle.std.proofs.Common.{◌∙◌, ◌+◌, arith}
use Rattle.std.proofs.lemmas.List.{length-set, get_or-set_other}
use Rattle.cad_making.specs.Code.Ends.{told_in}
use Rattle.cad_making.proofs.Passing.{numbered_turn, count_turn}
use Rattle.cad_making.proofs.ends.+names.Goals as goal

pub name_row-loop-i-preserved : goal.name_row-loop-i-preserved
name_row-loop-i-preserved t c =
    let now = c.loop-i.row.items in
    let was = c.args.row.now.items in
    let i = c.loop-i.i in
    let new = c.name_place.new.place in
    let old = c.index_mut.result.now in (
      (length-set now i new ∙ c.loop-i.invariant.0.0, λ k d after. get_or-set_other now i k new d (λ same_index. omega (arith, after, same_index)) ∙ c.loop-i.invariant.0.1 k d (omega (arith, after))),
      numbered_turn (told_in c.args.state.now) c.args.next i (i + 1) c.loop-i.following now was new old (omega arith)
          (omega (arith, c.loop-i-test.true, c.len-i-end.ensures, c.args.row.now.ok.0, c.loop-i.invariant.0.0)) c.loop-i.invariant.1 c.index_mut.ensures.value (λ d. c.loop-i.invariant.0.1 i d (omega arith)) c.loop-i.invariant.2
          c.in_ok-following.ensures.place,
      count_turn (told_in c.args.state.now) c.args.next i (i + 1) c.loop-i.following c.in_ok-following.following now was old (omega arith)
          (omega (arith, c.loop-i-test.true, c.len-i-end.ensures, c.args.row.now.ok.0, c.loop-i.invariant.0.0)) c.loop-i.invariant.0.0 c.index_mut.ensures.value (λ d. c.loop-i.invariant.0.1 i d (omega arith)) c.loop-i.invariant.2
          c.in_ok-following.ensures.next,
    )
