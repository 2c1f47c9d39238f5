-- What changes add to the size of a record of all registers.
use Rattle.std.specs.Prelude.{ℕ, ◌+◌, List, [], ◌∷◌, length, Option, Some, None}
use Rattle.cad_wire.specs.declared.entry.Entry.{Entry}
use Rattle.cad_accounts.specs.Registers.{Map}

-- the bytes of an entry with this key: two lengths of 4 bytes each, the mark of a value, and both; none where there is no value
abbrev pub value_size : List ℕ → Option (List ℕ) → ℕ
value_size key None = 0
value_size key (Some value) = 9 + (length key + length value)

-- those of the new values
abbrev pub added : List Entry → ℕ
added [] = 0
added (e ∷ entries) = value_size e.key.0 e.value + added entries

-- those of the values that they replace
abbrev pub replaced : Map → List Entry → ℕ
replaced m [] = 0
replaced m (e ∷ entries) = value_size e.key.0 (m e.key.0) + replaced m entries
