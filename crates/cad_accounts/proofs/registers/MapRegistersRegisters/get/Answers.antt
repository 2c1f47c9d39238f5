use Rattle.std.proofs.Common.{◌≡◌, ◌∙◌, ℕ, ◌<◌, length, sym, ap, arith}
use Rattle.std.proofs.lemmas.Grind.{common_steps}
use Rattle.cad_accounts.specs.Memory.{block_rows, block_at}
use Rattle.cad_accounts.specs.Registers.{at}
use Rattle.cad_accounts.proofs.Blocks.{at_within, at_block}
use Rattle.cad_accounts.proofs.BlockEdits.{spare_there}
use Rattle.cad_accounts.proofs.registers.MapRegistersRegisters.get.Goals as goal

pub index-requires : goal.index-requires
index-requires c =
    let m = c.args.self.now in
    let some : 0 < length m.blocks.items = grind (arith, common_steps) in
    let is : c.block_of-block.result ≡ block_at m.blocks.items c.args.key.now.0 = c.block_of-block.ensures ∙ ap (block_at m.blocks.items) c.as_slice.ensures in
    omega (arith, is, at_within m.blocks.items c.args.key.now.0 some)

pub returns : goal.returns
returns c =
    let m = c.args.self.now in
    let key = c.args.key.now.0 in
    let some : 0 < length m.blocks.items = grind (arith, common_steps) in
    let is : c.block_of-block.result ≡ block_at m.blocks.items key = c.block_of-block.ensures ∙ ap (block_at m.blocks.items) c.as_slice.ensures in
    let inside : c.block_of-block.result < length m.blocks.items = omega (arith, is, at_within m.blocks.items key some) in
    c.get.ensures
    ∙ ap (at (block_rows c.index.result.now)) c.as_slice-2.ensures
    ∙ sym (at_block m.blocks.items key c.block_of-block.result c.index.result.now m.parted m.whole inside is c.index.ensures)
