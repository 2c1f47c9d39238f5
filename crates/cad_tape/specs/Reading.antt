-- What three tapes stand for.
use Rattle.std.specs.Prelude.{◌≡◌, ◌⊎◌, ℕ, ◌%◌, ◌<◌, ◌^◌, ◌==◌, false, List, [], ◌∷◌, length, Option, Some, None, if◌then◌else◌}
use Rattle.cad_host.specs.declared.host.Tape.{Tape}
use Rattle.cad_host.specs.declared.host.Tape.TheVariants.{A, B, Pick}
use Rattle.cad_host.specs.Disk.{same_tape, Event, wrote, synced, state, reads, IsClean, IsDisk, output, BreaksWrite, BreaksSync}
use Rattle.cad_wire.specs.declared.entry.Entry.{Entry}
use Rattle.cad_wire.specs.Fields.{◌>>=◌}
use Rattle.cad_wire.specs.Reading.{entries_of}
use Rattle.cad_tape.specs.Framing.{framing, spelled, Ends}

-- the entries of each body: None where one is no body
unfoldable pub records_of : List (List ℕ) → Option (List (List Entry))
records_of [] = Some []
records_of (body ∷ bodies) = do
  entries ← entries_of body
  others ← records_of bodies
  Some (entries ∷ others)

-- what a tape reads: the entries of each of its records
abbrev pub tape_reading : List ℕ → Option (List (List Entry))
tape_reading bytes = framing bytes >>= records_of

abbrev pub or_none : Option (List (List ℕ)) → List (List ℕ)
or_none None = []
or_none (Some bodies) = bodies

-- where the gate stands that ends a tape's records
abbrev pub ending : List ℕ → ℕ
ending bytes = length (spelled (or_none (framing bytes)))

-- the tape that the bytes of `pick` choose
abbrev pub chosen : List ℕ → Tape
chosen [] = B
chosen (x ∷ rest) = if x % 2 == 1 then A else B

-- the first byte of `pick` for a tape
abbrev pub pick_of : Tape → ℕ
pick_of A = 1
pick_of _ = 0

-- the bodies of the records that three tapes stand for
abbrev pub reading : (Tape → List ℕ) → Option (List (List ℕ))
reading disk = framing (disk (chosen (disk Pick)))

abbrev pub stored : List Event → List (List ℕ)
stored m = or_none (reading (reads m))

-- the tape in use is this one, and its ending gate stands there
pub record IsPlaced (m : List Event) (tape : Tape) (at : ℕ) : Type 0 where
  pub used : chosen (reads m Pick) ≡ tape
  pub ends : Ends (reads m tape) (stored m) at
  pub fits : length (reads m tape) < 2 ^ 64

-- the tapes stand for records, and this tape isn't in use
pub record IsFree (m : List Event) (onto : Tape) : Type 0 where
  pub not_used : same_tape onto (chosen (reads m Pick)) ≡ false
  pub not_pick : same_tape onto Pick ≡ false
  pub whole : reading (reads m) ≡ Some (stored m)

-- nothing is pending on the tape in use and on `pick`
pub record IsQuiet (m : List Event) : Type 0 where
  pub clean : IsClean (state (chosen (reads m Pick)) m)
  pub clean_pick : IsClean (state Pick m)

abbrev pub IsBeforeOrAfter : List (List ℕ) → List (List ℕ) → (Tape → List ℕ) → Type 0
IsBeforeOrAfter before behind disk = (reading disk ≡ Some before) ⊎ (reading disk ≡ Some behind)

-- at this moment no output has come, and each image stands for the one or the other
pub record Leaves (old : List Event) (before behind : List (List ℕ)) (m : List Event) : Type 0 where
  pub output : output m ≡ output old
  pub disk : (disk : Tape → List ℕ) → IsDisk m disk → IsBeforeOrAfter before behind disk

-- a write and a sync, and another of each
abbrev pub four_calls : Tape → ℕ → List ℕ → Tape → ℕ → List ℕ → List Event → List Event
four_calls t at bytes u place more old = synced u ∷ wrote u place more ∷ synced t ∷ wrote t at bytes ∷ old

-- the one of them that broke, and those before it
pub data BreaksFour (t : Tape) (at : ℕ) (bytes : List ℕ) (u : Tape) (place : ℕ) (more : List ℕ) (old new : List Event) : Type 0 where
  at_write : BreaksWrite t at bytes old new → BreaksFour t at bytes u place more old new
  at_sync : BreaksSync t (wrote t at bytes ∷ old) new → BreaksFour t at bytes u place more old new
  at_second_write : BreaksWrite u place more (synced t ∷ wrote t at bytes ∷ old) new → BreaksFour t at bytes u place more old new
  at_second_sync : BreaksSync u (wrote u place more ∷ synced t ∷ wrote t at bytes ∷ old) new → BreaksFour t at bytes u place more old new
