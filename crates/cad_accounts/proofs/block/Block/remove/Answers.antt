use Rattle.std.proofs.Common.{◌∙◌, ap}
use Rattle.cad_accounts.specs.Registers.{are_rising}
use Rattle.cad_accounts.specs.KeyOrder.{row_key}
use Rattle.cad_accounts.proofs.Order.{remove_rises}
use Rattle.cad_accounts.proofs.block.Block.remove.Goals as goal

pub invariant_of-self : goal.invariant_of-self
invariant_of-self c =
    let b = c.args.self.now in
    record { ascending = ap are_rising c.remove.ensures.items ∙ remove_rises row_key b.rows.items c.args.i c.remove.result b.ascending c.requires }
