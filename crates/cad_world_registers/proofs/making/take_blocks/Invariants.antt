use Rattle.std.proofs.Common.{◌≡◌, map, drop}
use Rattle.cad_accounts.specs.Memory.{rows_in_blocks}
use Rattle.cad_worlds.specs.Standing.{register_of}
use Rattle.cad_world_registers.specs.Meaning.{parts_of}
use Rattle.cad_world_registers.specs.Told.{all_made}
use Rattle.cad_world_registers.proofs.making.take_blocks.Given as goal

abbrev pub invariant-loop-block : goal.invariant-loop-block
invariant-loop-block l = all_made (map register_of (rows_in_blocks (drop l.block-index l.blocks))) (parts_of l.parts) ≡ all_made (map register_of (rows_in_blocks l.blocks)) (parts_of l.fn.parts)
