-- Registers on three tapes.
use Rattle.std.specs.Prelude.{◌≡◌, ◌⊎◌, ℕ, ◌+◌, ◌<◌, ◌≤◌, ◌==◌, List, [], ◌∷◌, length, Some, if◌then◌else◌}
use Rattle.cad_host.specs.declared.host.Tape.{Tape}
use Rattle.cad_host.specs.declared.host.Tape.TheVariants.{A, B, Pick}
use Rattle.cad_host.specs.Disk.{Event, reads, IsDisk, output}
use Rattle.cad_wire.specs.declared.entry.Entry.{Entry}
use Rattle.cad_wire.specs.Body.{body_bytes, IsRecord}
use Rattle.cad_tape.specs.Framing.{framed}
use Rattle.cad_tape.specs.Reading.{tape_reading, chosen, pick_of, ending, four_calls, BreaksFour, IsPlaced, IsFree, IsQuiet}
use Rattle.cad_accounts.specs.declared.row.Row.{Row}
use Rattle.cad_accounts.specs.Registers.{Map, at, folded, no_registers}
use Rattle.cad_accounts.specs.Room.{rows_of, HasRoom}
use Rattle.cad_store.specs.declared.place.Place.{Place}
use Rattle.cad_store.specs.declared.place.Place.TheVariants.{Behind, Onto}
use Rattle.cad_store.specs.declared.store.Store.{Store}
use Rattle.cad_store.specs.declared.store.Commit.{Commit}

-- tapes that read as records, which make this map
pub record DiskHolds (disk : Tape → List ℕ) (m : Map) : Type 0 where
  pub records : List (List Entry)
  pub reading : tape_reading (disk (chosen (disk Pick))) ≡ Some records
  pub is : (key : List ℕ) → folded records no_registers key ≡ m key

-- the registers of a store
abbrev pub rows_in : Store → List Row
rows_in store = rows_of store.registers

abbrev pub held : Store → Map
held store = at (rows_in store)

-- how many bytes a record of all registers may have, with the gate behind it
abbrev pub room_of : Store → ℕ
room_of store = store.room

-- The next record goes behind those of the tape in use; or onto this tape, where the tape in use is empty.
abbrev pub IsAt : List Event → Place → Type 0
IsAt m (Behind tape at) = IsPlaced m tape at
IsAt m (Onto tape) = IsFree m tape × (length (reads m (chosen (reads m Pick))) ≡ 0)

-- the other of the two tapes for records
abbrev pub other : Tape → Tape
other A = B
other _ = A

-- the tapes read as the store left them, and nothing is pending on what is read
pub record IsOn (m : List Event) (store : Store) : Type 0 where
  pub holds : DiskHolds (reads m) (held store)
  pub place : IsAt m store.place
  pub quiet : IsQuiet m

-- a commit of this store: these changes, built as a record, with room for them in memory
pub record IsOut (store : Store) (commit : Commit) (changes : List Entry) : Type 0 where
  pub changes_are : commit.changes ≡ changes
  pub bytes_are : commit.bytes ≡ 1 ∷ framed (body_bytes changes)
  pub form : IsRecord changes
  pub room : HasRoom changes store.registers

-- at this moment no output has come, and each image holds the one map or the other
pub record Keeps (old : List Event) (before behind : Map) (m : List Event) : Type 0 where
  pub output : output m ≡ output old
  pub disk : (disk : Tape → List ℕ) → IsDisk m disk → DiskHolds disk before ⊎ DiskHolds disk behind

-- A record of these bytes behind those of the tape in use; or alone on the other tape, where the tape in use is empty.
abbrev pub recorded : List ℕ → List Event → List Event
recorded body m =
    if length (reads m (chosen (reads m Pick))) == 0
    then four_calls (other (chosen (reads m Pick))) 0 (1 ∷ framed body) Pick 0 (pick_of (other (chosen (reads m Pick))) ∷ []) m
    else four_calls (chosen (reads m Pick)) (ending (reads m (chosen (reads m Pick))) + 1) (framed body) (chosen (reads m Pick)) (ending (reads m (chosen (reads m Pick)))) (1 ∷ []) m

-- one of its four calls broke
pub data BreaksRecord (body : List ℕ) (m new : List Event) : Type 0 where
  onto_other : length (reads m (chosen (reads m Pick))) ≡ 0
      → BreaksFour (other (chosen (reads m Pick))) 0 (1 ∷ framed body) Pick 0 (pick_of (other (chosen (reads m Pick))) ∷ []) m new → BreaksRecord body m new
  behind_records : 0 < length (reads m (chosen (reads m Pick)))
      → BreaksFour (chosen (reads m Pick)) (ending (reads m (chosen (reads m Pick))) + 1) (framed body) (chosen (reads m Pick)) (ending (reads m (chosen (reads m Pick)))) (1 ∷ []) m new → BreaksRecord body m new
