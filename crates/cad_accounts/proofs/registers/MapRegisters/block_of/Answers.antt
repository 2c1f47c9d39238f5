use Rattle.std.proofs.Common.{◌∙◌, ap}
use Rattle.cad_accounts.specs.Code.Blocks.{block_from}
use Rattle.cad_accounts.specs.KeyOrder.{rise}
use Rattle.cad_accounts.proofs.Blocks.{blocks_rise}
use Rattle.cad_accounts.proofs.registers.MapRegisters.block_of.Goals as goal

pub block_of-requires : goal.block_of-requires
block_of-requires c = let m = c.args.self.now in ap (rise block_from) c.as_slice.ensures.value ∙ blocks_rise m.blocks.items m.parted
