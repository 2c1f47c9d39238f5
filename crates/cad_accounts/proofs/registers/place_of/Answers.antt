use Rattle.std.proofs.Common.{◌≡◌, ◌-◌, suc, length, arith}
use Rattle.std.proofs.lemmas.Bool.Decides.{nat_tests}
use Rattle.cad_accounts.specs.Code.Blocks.{block_from}
use Rattle.cad_accounts.proofs.Order.{behind_last, stands_at}
use Rattle.cad_accounts.proofs.registers.place_of.Goals as goal

pub returns-in-Less : goal.returns-in-Less
returns-in-Less c =
    let blocks = c.args.blocks.now in
    let last : suc (length blocks - 1) ≡ length blocks = grind (arith, nat_tests) in
    behind_last block_from blocks c.args.key.now c.as_slice.result.now (length blocks - 1) c.index-blocks-count.result c.cmp.result c.requires last c.as_slice.ensures c.cmp.ensures c.in-Less.is

pub returns-in-Equal : goal.returns-in-Equal
returns-in-Equal c =
    let blocks = c.args.blocks.now in
    stands_at block_from blocks c.args.key.now c.as_slice.result.now (length blocks - 1) c.index-blocks-count.result c.cmp.result (grind (arith, nat_tests)) c.as_slice.ensures c.cmp.ensures c.in-Equal.is
