use Rattle.std.proofs.Common.{◌≡◌, ◌∙◌, true, take, ap, List, ℕ, Result, Ok, Err}
use Rattle.std.specs.Prelude.{OnOk, OnErr}
use Rattle.cad_accounts.specs.declared.row.Row.{Row}
use Rattle.cad_accounts.specs.Registers.{are_rising}
use Rattle.cad_accounts.specs.KeyOrder.{row_key}
use Rattle.cad_accounts.proofs.Order.{take_rises, drop_rises}
use Rattle.cad_accounts.proofs.block.Block.split.Goals as goal

-- whether the rest was taken out or not
rises : {T E V : Type 0} (items : V → List Row) (r : Result T E) (i : ℕ) (old new : V) → are_rising (items old) ≡ true → OnOk r (items new ≡ take i (items old)) → OnErr r (new ≡ old) → are_rising (items new) ≡ true
rises items (Ok x) i old new e taken same = ap are_rising taken ∙ take_rises row_key i (items old) e
rises items (Err x) i old new e taken same = ap (λ v. are_rising (items v)) same ∙ e

pub invariant_of-self : goal.invariant_of-self
invariant_of-self c =
    let b = c.args.self.now in
    record { ascending = rises (λ v. v.items) c.split_off.result c.args.i b.rows c.split_off.new.self b.ascending c.split_off.ensures.items c.split_off.ensures.err }

pub invariant_of-result : goal.invariant_of-result
invariant_of-result c =
    let b = c.args.self.now in
    record { ascending = ap are_rising c.in_ok-rows.ensures.tail ∙ drop_rises row_key c.args.i b.rows.items b.ascending }
