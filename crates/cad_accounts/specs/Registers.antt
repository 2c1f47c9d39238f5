-- Registers: bytes by key.
use Rattle.std.specs.Prelude.{◌≡◌, ◌≢◌, ℕ, ◌+◌, ◌==◌, Bool, true, List, [], ◌∷◌, length, map, All, Option, Some, None, if◌then◌else◌}
use Rattle.std.specs.Cmp.Lexicographic.{pointwise}
use Rattle.cad_wire.specs.declared.entry.Entry.{Entry}
use Rattle.cad_wire.specs.Body.{are_ascending, body_bytes}
use Rattle.cad_accounts.specs.declared.row.Row.{Row}
use Rattle.cad_accounts.specs.KeyOrder.{row_key, rise}

-- the bytes of each register that is there
abbrev pub Map : Type 0
Map = List ℕ → Option (List ℕ)

abbrev pub same_key : List ℕ → List ℕ → Bool
same_key = pointwise ◌==◌

abbrev pub no_registers : Map
no_registers key = None

-- one register has these bytes, or is removed
abbrev pub changed : List ℕ → Option (List ℕ) → Map → Map
changed key value m k = if same_key k key then value else m k

-- entries, one after another
abbrev pub applied : List Entry → Map → Map
applied [] m = m
applied (e ∷ entries) m = applied entries (changed e.key.0 e.value m)

-- records, one after another
abbrev pub folded : List (List Entry) → Map → Map
folded [] m = m
folded (entries ∷ records) m = folded records (applied entries m)

-- rows as a map
abbrev pub at : List Row → Map
at [] key = None
at (row ∷ rows) key = if same_key key row.key.0 then Some row.value else at rows key

-- in byte order of their keys, each key once
abbrev pub are_rising : List Row → Bool
are_rising = rise row_key

-- These entries lead from the one map to the other: those that differ, in byte order.
pub record Leads (old new : Map) (entries : List Entry) : Type 0 where
  pub ascending : are_ascending entries ≡ true
  pub is : (key : List ℕ) → new key ≡ applied entries old key
  pub differ : All (λ e. old e.key.0 ≢ e.value) entries

-- One record with all registers, and how many bytes it has, with the gate behind it: a gate, 8 bytes of its body's length,
-- the body and a gate.
abbrev pub entry_of : Row → Entry
entry_of row = record { key = row.key; value = Some row.value }

abbrev pub size_of : List Row → ℕ
size_of rows = 10 + length (body_bytes (map entry_of rows))
