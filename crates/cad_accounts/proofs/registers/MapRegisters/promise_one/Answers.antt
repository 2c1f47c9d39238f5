use Rattle.std.proofs.Common.{◌≡◌, ◌∙◌, ap, arith}
use Rattle.cad_accounts.specs.Memory.{block_at}
use Rattle.cad_accounts.proofs.Blocks.{at_within}
use Rattle.cad_accounts.proofs.registers.MapRegisters.promise_one.Goals as goal

pub widen-requires : goal.widen-requires
widen-requires c =
    let blocks = c.part.new.self.blocks.items in
    let is : c.block_of-block.result ≡ block_at blocks c.args.key.now.0 = c.block_of-block.ensures ∙ ap (block_at blocks) c.as_slice.ensures in
    omega (arith, is, at_within blocks c.args.key.now.0 c.part.ensures.some)

pub returns : goal.returns
returns c =
    let blocks = c.part.new.self.blocks.items in
    let is : c.block_of-block.result ≡ block_at blocks c.args.key.now.0 = c.block_of-block.ensures ∙ ap (block_at blocks) c.as_slice.ensures in
    record {
      rows = c.widen.ensures.rows ∙ c.part.ensures.rows;
      some = c.widen.ensures.some;
      ok = record { middle = blocks; parts = c.in_ok-part.ensures.ok; block_is = is; more_is = c.in_ok-more.ensures; widens = c.in_ok-widen.ensures.ok };
    }
