-- How rows are kept in memory.
use Rattle.std.specs.Prelude.{ℕ, ◌+◌, ◌^◌, Bool, true, ◌&&◌, nat_lt, List, [], ◌∷◌, length}
use Rattle.cad_accounts.specs.declared.row.Row.{Row}

-- how many bytes the entry of a row has: two lengths of 4 bytes each, the mark of a value, and both
abbrev pub row_size : Row → ℕ
row_size row = 9 + (length row.key.0 + length row.value)

-- lengths that 4 bytes can tell
abbrev pub is_short : Row → Bool
is_short row = nat_lt (length row.key.0) (2 ^ 32) && nat_lt (length row.value) (2 ^ 32)

abbrev pub are_short : List Row → Bool
are_short [] = true
are_short (row ∷ rows) = is_short row && are_short rows
