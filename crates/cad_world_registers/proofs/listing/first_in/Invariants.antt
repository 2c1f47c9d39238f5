use Rattle.std.proofs.Common.{◌≡◌, drop}
use Rattle.cad_accounts.specs.Memory.{rows_in_blocks}
use Rattle.cad_world_registers.proofs.listing.first_in.Given as goal

abbrev pub invariant-loop-i : goal.invariant-loop-i
invariant-loop-i l = rows_in_blocks l.blocks ≡ rows_in_blocks (drop l.i l.blocks)
