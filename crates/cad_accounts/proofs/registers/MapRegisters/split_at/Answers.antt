use Rattle.std.proofs.Common.{◌≡◌, ◌∙◌, ap, arith}
use Rattle.cad_accounts.specs.Memory.{block_at}
use Rattle.cad_accounts.proofs.Blocks.{at_within}
use Rattle.cad_accounts.proofs.registers.MapRegisters.split_at.Goals as goal

pub split_block-requires : goal.split_block-requires
split_block-requires c =
    let m = c.args.self.now in
    let is : c.block_of-block.result ≡ block_at m.blocks.items c.args.key.0 = c.block_of-block.ensures ∙ ap (block_at m.blocks.items) c.as_slice.ensures in
    record {
      inside = omega (arith, is, at_within m.blocks.items c.args.key.0 c.requires.some);
      place = is;
      room = c.requires.room;
    }
