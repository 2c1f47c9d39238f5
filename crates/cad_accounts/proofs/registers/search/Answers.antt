use Rattle.std.proofs.Common.{rules}
use Rattle.std.specs.Ordering.{nat_cmp}
use Rattle.std.specs.Cmp.Lexicographic.{slice_cmp}
use Rattle.std.proofs.lemmas.Fn.{always_returns_same}
use Rattle.cad_accounts.specs.Code.Blocks.{block_from}
use Rattle.cad_accounts.proofs.Order.{placed}
use Rattle.cad_accounts.proofs.registers.search.Goals as goal

pub returns : goal.returns
returns c =
    let answers = c.binary_search_by.ensures.position (λ b. slice_cmp nat_cmp b.from.0 c.args.key.now) (always_returns_same _ _ _ (λ a r f' k. search rules)) in
    placed block_from c.args.key.now c.args.blocks.now c.binary_search_by.result c.requires c.binary_search_by.ensures.bound answers
