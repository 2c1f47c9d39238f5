-- Fields as bytes, and what stands at the front of bytes.
use Rattle.std.specs.Prelude.{ℕ, ◌<◌, slice_index, List, [], ◌∷◌, ◌++◌, length, take, drop, Option, Some, None, option_and_then, nat_lt, if◌then◌else◌}
use Rattle.std.specs.List.{flat_map}
use Rattle.std.specs.Int.{w32, w64, to_be_bytes, from_be_bytes}

-- a number: 8 bytes, the highest first
abbrev pub number_field : ℕ → List ℕ
number_field n = to_be_bytes w64 n

-- a length: 4 bytes, the highest first
abbrev pub length_field : ℕ → List ℕ
length_field n = to_be_bytes w32 n

-- a byte string: its length and its bytes
abbrev pub bytes_field : List ℕ → List ℕ
bytes_field bytes = length_field (length bytes) ++ bytes

-- a list: its length and its members
abbrev pub list_field : {A : Type 0} → (A → List ℕ) → List A → List ℕ
list_field field members = length_field (length members) ++ flat_map field members

infixl 10 ◌>>=◌
abbrev pub ◌>>=◌ : {A B : Type 0} → Option A → (A → Option B) → Option B
o >>= f = option_and_then f o

-- The field at the front, and the bytes after it. None where too few bytes are left.
abbrev pub byte_at : List ℕ → Option (ℕ × List ℕ)
byte_at [] = None
byte_at (b ∷ rest) = Some (b, rest)

abbrev pub number_at : List ℕ → Option (ℕ × List ℕ)
number_at bytes = if nat_lt (length bytes) 8 then None else Some (from_be_bytes w64 (take 8 bytes), drop 8 bytes)

abbrev pub length_at : List ℕ → Option (ℕ × List ℕ)
length_at bytes = if nat_lt (length bytes) 4 then None else Some (from_be_bytes w32 (take 4 bytes), drop 4 bytes)

unfoldable pub bytes_at : List ℕ → Option (List ℕ × List ℕ)
bytes_at bytes = do
  n ← length_at bytes
  if nat_lt (length n.1) n.0 then None else Some (take n.0 n.1, drop n.0 n.1)

-- each is a byte
abbrev pub AreBytes : List ℕ → Type 0
AreBytes bytes = (i : ℕ) → slice_index bytes i < 256
