-- What the opening of a store does to the tapes.
use Rattle.std.specs.Prelude.{◌≡◌, ℕ, List, ◌∷◌, Result, Ok, Err}
use Rattle.cad_host.specs.declared.host.Tape.{Tape}
use Rattle.cad_host.specs.declared.host.Tape.TheVariants.{Pick}
use Rattle.cad_host.specs.Disk.{Event, synced, reads, output, IsDisk, FailsLook, BreaksSync}
use Rattle.cad_tape.specs.Reading.{chosen}
use Rattle.cad_store.specs.declared.stops.OpenStop.{OpenStop}
use Rattle.cad_store.specs.declared.stops.OpenStop.TheVariants.{Failed, BadStore, Memory}

-- the tape in use
abbrev pub in_use : List Event → Tape
in_use m = chosen (reads m Pick)

-- `pick` is synced, and then the tape in use: nothing is pending on what was read
abbrev pub opened : List Event → List Event
opened m = synced (in_use m) ∷ synced Pick ∷ m

-- an opening of which a disk call failed: a look at `pick` or at the tape in use, or the sync of the one or the other
pub data BreaksOpening (old new : List Event) : Type 0 where
  at_pick : FailsLook Pick old new → BreaksOpening old new
  at_tape : FailsLook (in_use old) old new → BreaksOpening old new
  at_sync : BreaksSync Pick old new → BreaksOpening old new
  at_second_sync : BreaksSync (in_use old) (synced Pick ∷ old) new → BreaksOpening old new

-- what an opening adds: nothing where the store is bad or memory ran out
abbrev pub Opens : {T : Type 0} → Result T OpenStop → List Event → List Event → Type 0
Opens (Ok _) old new = new ≡ opened old
Opens (Err Failed) old new = BreaksOpening old new
Opens (Err BadStore) old new = new ≡ old
Opens (Err Memory) old new = new ≡ old

-- at this moment no output has come, and each image is one from before
pub record IsOpening (old m : List Event) : Type 0 where
  pub output : output m ≡ output old
  pub disk : (disk : Tape → List ℕ) → IsDisk m disk → IsDisk old disk
