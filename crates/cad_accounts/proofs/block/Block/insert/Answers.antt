use Rattle.std.proofs.Common.{◌≡◌, ◌∙◌, ap, arith}
use Rattle.std.specs.List.{insert}
use Rattle.std.proofs.lemmas.Grind.{common_steps}
use Rattle.cad_accounts.specs.Registers.{are_rising}
use Rattle.cad_accounts.specs.KeyOrder.{row_key}
use Rattle.cad_accounts.proofs.Order.{insert_rises}
use Rattle.cad_accounts.proofs.block.Block.insert.Goals as goal

pub invariant_of-self : goal.invariant_of-self
invariant_of-self c =
    let b = c.args.self.now in
    let is : c.insert.new.self.items ≡ insert b.rows.items c.args.i c.args.row = grind (arith, common_steps) in
    record { ascending = ap are_rising is ∙ insert_rises row_key b.rows.items c.args.i c.args.row b.ascending c.requires.fitting }
