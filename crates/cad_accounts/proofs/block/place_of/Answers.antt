use Rattle.std.proofs.Common.{◌≡◌, ◌-◌, suc, length, arith}
use Rattle.std.proofs.lemmas.Bool.Decides.{nat_tests}
use Rattle.cad_accounts.specs.KeyOrder.{row_key}
use Rattle.cad_accounts.proofs.Order.{behind_last, stands_at}
use Rattle.cad_accounts.proofs.block.place_of.Goals as goal

pub returns-in-Less : goal.returns-in-Less
returns-in-Less c =
    let rows = c.args.rows.now in
    let last : suc (length rows - 1) ≡ length rows = grind (arith, nat_tests) in
    behind_last row_key rows c.args.key.now c.as_slice.result.now (length rows - 1) c.index-rows-count.result c.cmp.result c.requires last c.as_slice.ensures c.cmp.ensures c.in-Less.is

pub returns-in-Equal : goal.returns-in-Equal
returns-in-Equal c =
    let rows = c.args.rows.now in
    stands_at row_key rows c.args.key.now c.as_slice.result.now (length rows - 1) c.index-rows-count.result c.cmp.result (grind (arith, nat_tests)) c.as_slice.ensures c.cmp.ensures c.in-Equal.is
