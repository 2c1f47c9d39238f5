-- Taking records from the front of a tape.
use Rattle.std.specs.Prelude.{◌≡◌, ◌≢◌, ◌⊎◌, ℕ, ◌+◌, ◌<◌, ◌≤◌, ◌^◌, ◌==◌, List, [], ◌∷◌, ◌++◌, length, take, drop, Option, Some, None, Result, Ok, Err, if◌then◌else◌}
use Rattle.cad_wire.specs.declared.entry.Entry.{Entry}
use Rattle.cad_wire.specs.Fields.{◌>>=◌, number_field, number_at}
use Rattle.cad_wire.specs.Reading.{entries_of}
use Rattle.cad_tape.specs.declared.stop.ScanStop.{ScanStop}
use Rattle.cad_tape.specs.declared.stop.ScanStop.TheVariants.{Failed, Damaged, Memory}
use Rattle.cad_tape.specs.Framing.{bodies_in}
use Rattle.cad_tape.specs.Reading.{records_of}

-- these bytes were read of the tape at this place, and it ends there
pub record IsAlong (tape unread : List ℕ) (place end : ℕ) : Type 0 where
  pub is : unread ≡ take (length unread) (drop place tape)
  pub within : place + length unread ≤ length tape
  pub end_is : end ≡ length tape

-- as many bytes were read as are needed, or all up to the end of the tape
abbrev pub HasEnough : (tape unread : List ℕ) → ℕ → ℕ → Type 0
HasEnough tape unread place need = (need ≤ length unread) ⊎ (length tape ≤ place + length unread)

-- a closed gate at the front, or an open one with the length of the body
abbrev pub header_at : List ℕ → Option (Option ℕ)
header_at [] = None
header_at (gate ∷ rest) = if gate == 1 then (number_at rest >>= λ n. Some (Some n.0)) else Some None

-- bytes that aren't those of records
abbrev pub IsBad : List ℕ → Type 0
IsBad bytes = (n : ℕ) → (bodies_in n bytes >>= records_of) ≡ None

pub record IsClosed (bytes : List ℕ) : Type 0 where
  pub gate : ℕ
  pub rest : List ℕ
  pub closed : gate ≢ 1
  pub is : bytes ≡ gate ∷ rest

-- from a place up to the next stands a record with these entries
pub record TakesRecord (entries : List Entry) (tape : List ℕ) (place next : ℕ) : Type 0 where
  pub body : List ℕ
  pub short : length body < 2 ^ 64
  pub is : drop place tape ≡ 1 ∷ (number_field (length body) ++ (body ++ drop next tape))
  pub next_is : next ≡ place + 9 + length body
  pub read : entries_of body ≡ Some entries

-- what was taken at a place
abbrev pub Takes : Result (Option (List Entry)) ScanStop → List ℕ → ℕ → ℕ → Type 0
Takes (Ok (Some entries)) tape place next = TakesRecord entries tape place next
Takes (Ok None) tape place next = IsClosed (drop place tape) × (next ≡ place)
Takes (Err Damaged) tape place next = IsBad (drop place tape)
Takes (Err Failed) tape place next = Unit {0}
Takes (Err Memory) tape place next = Unit {0}
