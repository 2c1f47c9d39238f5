use Rattle.std.proofs.Common.{◌≡◌, ◌∙◌, List, [], ℕ, suc, take, refl, sym, subst, add-one, arith}
use Rattle.cad_accounts.proofs.Promising.{Turned, none_yet, turned, turned_end}
use Rattle.cad_accounts.proofs.registers.MapRegisters.promise.Goals as goal

pub loop-change-init : goal.loop-change-init
loop-change-init c = record { rows = refl; some = c.requires.some; turned = none_yet c.args.self.now.blocks.items [] }

pub loop-change-preserved : goal.loop-change-preserved
loop-change-preserved c =
    let old = c.loop-change.self.blocks.items in
    let new = c.promise_one.new.self.blocks.items in
    let changes = c.args.changes.now in
    let inv = c.loop-change.invariant in
    record {
      rows = c.promise_one.ensures.rows ∙ inv.rows;
      some = c.promise_one.ensures.some;
      turned = rw add-one (subst (λ (k : List ℕ). Turned new (take (suc c.loop-change.change-index) changes) k c.in_ok-block.block c.in_ok-block.more) (sym c.as_slice-last.ensures)
          (turned old new changes c.loop-change.change-index c.change-item.result c.loop-change.last.now c.loop-change.at c.loop-change.promised c.in_ok-block.block c.in_ok-block.more c.requires.ascending (omega arith) c.change-item.is inv.turned c.in_ok-block.ensures.ok));
    }

pub returns : goal.returns
returns c = record {
  rows = c.loop-change.invariant.rows;
  ok = turned_end c.loop-change.self.blocks.items c.args.changes.now c.loop-change.last.now c.loop-change.change-index c.loop-change.at c.loop-change.promised c.loop-change-test.false c.loop-change.invariant.turned;
}
