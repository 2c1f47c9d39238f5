-- Registers in memory, and changes of them that take no memory.
use Rattle.std.specs.Prelude.{ℕ, ◌+◌, ◌≤◌, ◌<◌, ◌^◌, List, length}
use Rattle.cad_wire.specs.declared.entry.Entry.{Entry}
use Rattle.cad_accounts.specs.declared.row.Row.{Row}
use Rattle.cad_accounts.specs.declared.registers.MapRegisters.{MapRegisters}
use Rattle.cad_accounts.specs.Memory.{rows_in_blocks, spare_at, falling}

-- the registers that are there, in byte order
abbrev pub rows_of : MapRegisters → List Row
rows_of m = rows_in_blocks m.blocks.items

-- Each block has room for the changes that fall to it, and there are fewer than 2^32 registers behind them.
pub record HasRoom (changes : List Entry) (m : MapRegisters) : Type 0 where
  pub each : (i : ℕ) → falling m.blocks.items i changes ≤ spare_at m.blocks.items i
  pub few : length (rows_of m) + length changes < 2 ^ 32
