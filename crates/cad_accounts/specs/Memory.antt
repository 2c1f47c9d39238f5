-- Registers in memory: in blocks, one behind the other.
use Rattle.std.specs.Prelude.{ℕ, zero, suc, ◌+◌, ◌-◌, ◌==◌, List, [], ◌∷◌, ◌++◌, vec_len, vec_capacity, if◌then◌else◌}
use Rattle.cad_wire.specs.declared.entry.Entry.{Entry}
use Rattle.cad_accounts.specs.declared.row.Row.{Row}
use Rattle.cad_accounts.specs.declared.block.Block.{Block}
use Rattle.cad_accounts.specs.KeyOrder.{before}

abbrev pub block_rows : Block → List Row
block_rows b = b.rows.items

abbrev pub rows_in_blocks : List Block → List Row
rows_in_blocks [] = []
rows_in_blocks (b ∷ blocks) = block_rows b ++ rows_in_blocks blocks

-- how many blocks begin at this key or before it
abbrev pub begun : List Block → List ℕ → ℕ
begun [] key = 0
begun (b ∷ blocks) key = if before key b.from.0 then 0 else suc (begun blocks key)

-- the index of the block that a key falls to: the last of these
abbrev pub block_at : List Block → List ℕ → ℕ
block_at blocks key = begun blocks key - 1

-- how many more rows a block takes without memory
abbrev pub spare : Block → ℕ
spare b = vec_capacity b.rows - vec_len b.rows

abbrev pub spare_at : List Block → ℕ → ℕ
spare_at [] i = 0
spare_at (b ∷ blocks) zero = spare b
spare_at (b ∷ blocks) (suc i) = spare_at blocks i

-- how many changes fall to a block
abbrev pub falling : List Block → ℕ → List Entry → ℕ
falling blocks i [] = 0
falling blocks i (e ∷ changes) = (if block_at blocks e.key.0 == i then 1 else 0) + falling blocks i changes
