use Rattle.std.proofs.Common.{rules}
use Rattle.std.specs.Ordering.{nat_cmp}
use Rattle.std.specs.Cmp.Lexicographic.{slice_cmp}
use Rattle.std.proofs.lemmas.Fn.{always_returns_same}
use Rattle.cad_accounts.specs.KeyOrder.{row_key}
use Rattle.cad_accounts.proofs.Order.{placed}
use Rattle.cad_accounts.proofs.block.search.Goals as goal

pub returns : goal.returns
returns c =
    let answers = c.binary_search_by.ensures.position (λ row. slice_cmp nat_cmp row.key.0 c.args.key.now) (always_returns_same _ _ _ (λ a r f' k. search rules)) in
    placed row_key c.args.key.now c.args.rows.now c.binary_search_by.result c.requires c.binary_search_by.ensures.bound answers
