-- Reading the body of a record.
use Rattle.std.specs.Prelude.{◌≡◌, ℕ, zero, suc, ◌&&◌, ◌==◌, List, [], ◌∷◌, length, Option, Some, None, Result, Ok, Err, if◌then◌else◌}
use Rattle.cad_wire.specs.declared.entry.Entry.{Entry}
use Rattle.cad_wire.specs.declared.error.DecodeError.{DecodeError}
use Rattle.cad_wire.specs.declared.error.DecodeError.TheVariants.{Damaged, Memory}
use Rattle.cad_wire.specs.Fields.{◌>>=◌, byte_at, length_at, bytes_at}
use Rattle.cad_wire.specs.Body.{are_ascending}

-- What a call returned is what reading gives, unless memory ran out.
abbrev pub Gives : {X : Type 0} → Result X DecodeError → Option X → Type 0
Gives (Ok x) read = read ≡ Some x
Gives (Err Damaged) read = read ≡ None
Gives (Err Memory) read = Unit {0}

-- the same of the field at the front, and the bytes after it
abbrev pub Reads : {X : Type 0} → Result X DecodeError → Option (X × List ℕ) → List ℕ → Type 0
Reads (Ok x) read rest = read ≡ Some (x, rest)
Reads (Err Damaged) read rest = read ≡ None
Reads (Err Memory) read rest = Unit {0}

-- The field at the front, and the bytes after it. None where none stands there.
unfoldable pub change_at : List ℕ → Option (Option (List ℕ) × List ℕ)
change_at [] = None
change_at (zero ∷ rest) = Some (None, rest)
change_at (suc zero ∷ rest) = do
  v ← bytes_at rest
  Some (Some v.0, v.1)
change_at (suc (suc b) ∷ rest) = None

unfoldable pub entry_at : List ℕ → Option (Entry × List ℕ)
entry_at bytes = do
  key ← bytes_at bytes
  value ← change_at key.1
  Some (record { key = record { 0 = key.0 }; value = value.0 }, value.1)

unfoldable pub entries_at : ℕ → List ℕ → Option (List Entry × List ℕ)
entries_at zero bytes = Some ([], bytes)
entries_at (suc n) bytes = do
  first ← entry_at bytes
  others ← entries_at n first.1
  Some (first.0 ∷ others.0, others.1)

-- the entries of the record with this body: all of the bytes
unfoldable pub entries_of : List ℕ → Option (List Entry)
entries_of bytes = do
  format ← byte_at bytes
  count ← if format.0 == 1 then length_at format.1 else None
  entries ← entries_at count.0 count.1
  if length entries.1 == 0 && are_ascending entries.0 then Some entries.0 else None
