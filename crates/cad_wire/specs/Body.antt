-- The body of a record as bytes.
use Rattle.std.specs.Prelude.{◌≡◌, ℕ, ◌<◌, ◌^◌, Bool, true, ◌&&◌, List, [], ◌∷◌, ◌++◌, length, Option, Some, None, IfSome, All}
use Rattle.std.specs.Ordering.{nat_cmp, is_lt}
use Rattle.std.specs.Cmp.Lexicographic.{slice_cmp}
use Rattle.cad_wire.specs.declared.entry.Entry.{Entry}
use Rattle.cad_wire.specs.Fields.{bytes_field, list_field}

-- a removed register, or its value
abbrev pub change_field : Option (List ℕ) → List ℕ
change_field None = 0 ∷ []
change_field (Some bytes) = 1 ∷ bytes_field bytes

abbrev pub entry_field : Entry → List ℕ
entry_field e = bytes_field e.key.0 ++ change_field e.value

-- the format byte, and the list of the entries
abbrev pub body_bytes : List Entry → List ℕ
body_bytes entries = 1 ∷ list_field entry_field entries

-- in byte order of their keys, each key once
abbrev pub are_ascending : List Entry → Bool
are_ascending [] = true
are_ascending (e ∷ []) = true
are_ascending (e ∷ f ∷ entries) = is_lt (slice_cmp nat_cmp e.key.0 f.key.0) && are_ascending (f ∷ entries)

-- lengths that 4 bytes can tell
pub record Fits (e : Entry) : Type 0 where
  pub key : length e.key.0 < 2 ^ 32
  pub value : IfSome e.value (λ v. length v < 2 ^ 32)

pub record FewEnough (entries : List Entry) : Type 0 where
  pub few : length entries < 2 ^ 32
  pub fit : All Fits entries

-- the entries of a record
pub record IsRecord (entries : List Entry) : Type 0 where
  pub few : FewEnough entries
  pub ascending : are_ascending entries ≡ true
