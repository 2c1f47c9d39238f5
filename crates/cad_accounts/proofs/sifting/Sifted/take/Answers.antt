use Rattle.std.proofs.Common.{◌≡◌, length, List, ap, ◌∙◌, arith}
use Rattle.std.proofs.lemmas.Bool.Decides.{nat_tests}
use Rattle.cad_wire.specs.declared.entry.Entry.{Entry}
use Rattle.cad_accounts.specs.Registers.{applied, changed}
use Rattle.cad_accounts.specs.Code.Places.{entry_key}
use Rattle.cad_accounts.proofs.Order.{stands_there, belongs_there}
use Rattle.cad_accounts.proofs.LateEntries.{takes_there, takes_behind, takes_late}
use Rattle.cad_accounts.proofs.sifting.Sifted.take.Goals as goal

pub invariant_of-self : goal.invariant_of-self
invariant_of-self c =
    let es = c.self.inside.in_order.items in
    let e = c.args.entry in
    let has = stands_there entry_key e.key.0 c.as_slice-2.result.now es c.as_slice.result.now c.in-Ok.i c.as_slice-2.ensures c.as_slice.ensures.value c.in-Ok.ensures in
    let t = takes_there es c.self.inside.late.items e.key.0 e.value c.in-Ok.i c.index_mut.result.now c.self.invariant.0 c.self.invariant.1 has c.index_mut.ensures.value in
    (t.ascends, t.late_are)

pub invariant_of-self-then-i-len : goal.invariant_of-self-then-i-len
invariant_of-self-then-i-len c =
    let es = c.self.inside.in_order.items in
    let e = c.args.entry in
    let b = belongs_there entry_key e.key.0 c.as_slice-2.result.now es c.as_slice.result.now c.in-Err.i c.as_slice-2.ensures c.as_slice.ensures.value c.in-Err.ensures in
    let at : c.in-Err.i ≡ length es = grind (arith, nat_tests) in
    let t = takes_behind es c.self.inside.late.items c.push.new.self.items e c.in-Err.i c.self.invariant.0 c.self.invariant.1 b at c.in_ok-push-in-Err.ensures.items in
    (t.ascends, t.late_are)

pub invariant_of-self-in-Continue-branch-2 : goal.invariant_of-self-in-Continue-branch-2
invariant_of-self-in-Continue-branch-2 c =
    let es = c.self.inside.in_order.items in
    let e = c.args.entry in
    let b = belongs_there entry_key e.key.0 c.as_slice-2.result.now es c.as_slice.result.now c.in-Err.i c.as_slice-2.ensures c.as_slice.ensures.value c.in-Err.ensures in
    let inside : c.in-Err.i ≡ length es → ⊥ = λ at. grind (arith, nat_tests, at) in
    let t = takes_late es c.self.inside.late.items c.push-in-Err-2.new.self.items e c.in-Err.i c.self.invariant.0 c.self.invariant.1 b inside c.in_ok-push-in-Err-2.ensures.items in
    (t.ascends, t.late_are)

pub returns-in-Ok : goal.returns-in-Ok
returns-in-Ok c m =
    let es = c.self.inside.in_order.items in
    let e = c.args.entry in
    let has = stands_there entry_key e.key.0 c.as_slice-2.result.now es c.as_slice.result.now c.in-Ok.i c.as_slice-2.ensures c.as_slice.ensures.value c.in-Ok.ensures in
    let t = takes_there es c.self.inside.late.items e.key.0 e.value c.in-Ok.i c.index_mut.result.now c.self.invariant.0 c.self.invariant.1 has c.index_mut.ensures.value in
    t.is m ∙ ap (λ (l : List Entry). changed e.key.0 e.value (applied l m)) c.self.view_is

pub returns-in_ok-push-in-Err : goal.returns-in_ok-push-in-Err
returns-in_ok-push-in-Err c m =
    let es = c.self.inside.in_order.items in
    let e = c.args.entry in
    let b = belongs_there entry_key e.key.0 c.as_slice-2.result.now es c.as_slice.result.now c.in-Err.i c.as_slice-2.ensures c.as_slice.ensures.value c.in-Err.ensures in
    let at : c.in-Err.i ≡ length es = grind (arith, nat_tests) in
    let t = takes_behind es c.self.inside.late.items c.push.new.self.items e c.in-Err.i c.self.invariant.0 c.self.invariant.1 b at c.in_ok-push-in-Err.ensures.items in
    t.is m ∙ ap (λ (l : List Entry). changed e.key.0 e.value (applied l m)) c.self.view_is

pub returns-in_ok-push-in-Err-2 : goal.returns-in_ok-push-in-Err-2
returns-in_ok-push-in-Err-2 c m =
    let es = c.self.inside.in_order.items in
    let e = c.args.entry in
    let b = belongs_there entry_key e.key.0 c.as_slice-2.result.now es c.as_slice.result.now c.in-Err.i c.as_slice-2.ensures c.as_slice.ensures.value c.in-Err.ensures in
    let inside : c.in-Err.i ≡ length es → ⊥ = λ at. grind (arith, nat_tests, at) in
    let t = takes_late es c.self.inside.late.items c.push-in-Err-2.new.self.items e c.in-Err.i c.self.invariant.0 c.self.invariant.1 b inside c.in_ok-push-in-Err-2.ensures.items in
    t.is m ∙ ap (λ (l : List Entry). changed e.key.0 e.value (applied l m)) c.self.view_is
