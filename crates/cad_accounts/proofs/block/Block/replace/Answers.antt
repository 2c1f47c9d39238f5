use Rattle.std.proofs.Common.{◌≡◌, ◌∙◌, true, ap}
use Rattle.std.proofs.Math.ListN.{set}
use Rattle.cad_accounts.specs.declared.row.Row.{Row}
use Rattle.cad_accounts.specs.Registers.{are_rising}
use Rattle.cad_accounts.specs.KeyOrder.{row_key}
use Rattle.cad_accounts.proofs.Order.{set_rises}
use Rattle.cad_accounts.proofs.block.Block.replace.Goals as goal

pub invariant_of-self : goal.invariant_of-self
invariant_of-self c =
    let b = c.args.self.now in
    record { ascending = ap (λ (r : Row). are_rising (set b.rows.items c.args.i r)) c.replace.ensures.after ∙ set_rises row_key b.rows.items c.args.i c.args.row b.ascending c.requires }
