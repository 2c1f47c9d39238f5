use Rattle.std.proofs.Common.{suc, ◌≡◌, ◌+◌, ◌<◌, length, ◌∙◌, arith}
use Rattle.std.proofs.lemmas.List.{length-set}
use Rattle.cad_run_accounts.specs.Code.Edits.{edited}
use Rattle.cad_run_accounts.proofs.Orders.{numbered, edited_turn}
use Rattle.cad_run_accounts.proofs.controllers.edit_all.Goals as goal

pub loop-i-preserved : goal.loop-i-preserved
loop-i-preserved c =
    let all = c.loop-i.all.items in
    let old = c.index_mut.result.now in
    let new = c.edit_numbered.new.controller in
    let more : c.loop-i.i + 1 ≡ suc c.loop-i.i = omega arith in
    let inside : c.loop-i.i < length all = omega (arith, c.loop-i-test.true, c.loop-i.invariant.1, c.len-i-end.ensures) in (
      edited_turn (numbered c.args.n (edited c.args.edit)) all c.loop-i.i (c.loop-i.i + 1) old new more inside c.index_mut.ensures.value c.in_ok-edit_numbered.ensures ∙ c.loop-i.invariant.0,
      length-set all c.loop-i.i new ∙ c.loop-i.invariant.1,
    )
