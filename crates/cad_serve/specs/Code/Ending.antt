-- What a run leaves, by its status.
use Rattle.std.specs.Prelude.{◌≡◌, ℕ, ◌≤◌, ◌^◌, List, [], ◌∷◌, ◌++◌, length}
use Rattle.cad_host.specs.Disk.{Event, output, reads, FailsTake}
use Rattle.cad_host.specs.Faults.{Rose}
use Rattle.cad_world.specs.State.{World}
use Rattle.cad_serve_parts.specs.Lines.{commands}
use Rattle.cad_serve.specs.Served.{Served, ServedSome, Broken, Finished}
use Rattle.cad_serve.specs.Writing.{Wrote, WroteSome, WroteBroken, WroteStopped}
use Rattle.cad_serve.specs.Crashes.{DiskStands, KeepsPrefix}
use Rattle.cad_store.specs.Opening.{BreaksOpening}
use Rattle.cad_store.specs.declared.stops.OpenStop.{OpenStop}
use Rattle.cad_store.specs.declared.stops.OpenStop.TheVariants as stop
use Rattle.cad_serve.specs.declared.status.Status.{Status}
use Rattle.cad_serve.specs.declared.status.Status.TheVariants.{Done, Usage, ReadFault, WriteFault, DiskFault, Memory, BadStore, InputBound}

-- how many bytes of input are read
abbrev pub input_bound : ℕ
input_bound = 2 ^ 40

-- Of the input these bytes are left, and the output grew; but for a disk fault the tapes stand for the World after the
-- commands that were replied to. A disk fault ended the commit of the next command.
abbrev pub Leaves : Status → World → (input left : List ℕ) → (old new : List Event) → Type 0
Leaves Done w input left old new =
    (v : World) × (left ≡ []) × (length input ≤ input_bound) × Served w (commands input) (output old) (output new) v × DiskStands (reads new) v × Wrote old w (commands input) old new v
Leaves Usage w input left old new = ⊥
Leaves ReadFault w input left old new =
    (v : World) × (taken : List ℕ) × (told : List Event) × (input ≡ taken ++ left) × Finished old w taken old told v × FailsTake told new × DiskStands (reads new) v
Leaves WriteFault w input left old new = (v : World) × Broken w (commands input) (output old) (output new) v × DiskStands (reads new) v × WroteBroken old w (commands input) old new v
Leaves DiskFault w input left old new = (v : World) × ServedSome w (commands input) (output old) (output new) v × WroteStopped old w (commands input) old new v
Leaves Memory w input left old new = (v : World) × ServedSome w (commands input) (output old) (output new) v × DiskStands (reads new) v × WroteSome old w (commands input) old new v
Leaves BadStore w input left old new = ⊥
Leaves InputBound w input left old new =
    (v : World) × (taken : List ℕ) × (byte : ℕ) × (length taken ≡ input_bound) × (input ≡ taken ++ byte ∷ left)
    × Finished old w taken old new v × DiskStands (reads new) v

pub record Ends (status : Status) (w : World) (input left : List ℕ) (old new : List Event) : Type 0 where
  pub leaves : Leaves status w input left old new
  pub survives : KeepsPrefix w (commands input) old new

-- The opening ended the run, and nothing was taken: a disk call of it failed, or memory ran out.
abbrev pub EndsOpening : Status → (input left : List ℕ) → (old new : List Event) → Type 0
EndsOpening Done input left old new = ⊥
EndsOpening Usage input left old new = ⊥
EndsOpening ReadFault input left old new = ⊥
EndsOpening WriteFault input left old new = ⊥
EndsOpening DiskFault input left old new = (left ≡ input) × BreaksOpening old new
EndsOpening Memory input left old new = (left ≡ input) × (new ≡ old)
EndsOpening BadStore input left old new = ⊥
EndsOpening InputBound input left old new = ⊥

-- Where the status is a fault of the input, the output or the disk, the count of these rose; each other count stays.
abbrev pub IsCausedBy : Status → (input_old input_new output_old output_new disk_old disk_new : ℕ) → Type 0
IsCausedBy Done i j o p d e = (j ≡ i) × (p ≡ o) × (e ≡ d)
IsCausedBy Usage i j o p d e = (j ≡ i) × (p ≡ o) × (e ≡ d)
IsCausedBy ReadFault i j o p d e = Rose i j × (p ≡ o) × (e ≡ d)
IsCausedBy WriteFault i j o p d e = (j ≡ i) × Rose o p × (e ≡ d)
IsCausedBy DiskFault i j o p d e = (j ≡ i) × (p ≡ o) × Rose d e
IsCausedBy Memory i j o p d e = (j ≡ i) × (p ≡ o) × (e ≡ d)
IsCausedBy BadStore i j o p d e = (j ≡ i) × (p ≡ o) × (e ≡ d)
IsCausedBy InputBound i j o p d e = (j ≡ i) × (p ≡ o) × (e ≡ d)

-- the same of a run whose store was opened
abbrev pub HasCause : Status → (input_old input_new output_old output_new disk_old disk_new : ℕ) → Type 0
HasCause Done i j o p d e = (j ≡ i) × (p ≡ o) × (e ≡ d)
HasCause Usage i j o p d e = ⊥
HasCause ReadFault i j o p d e = Rose i j × (p ≡ o) × (e ≡ d)
HasCause WriteFault i j o p d e = (j ≡ i) × Rose o p × (e ≡ d)
HasCause DiskFault i j o p d e = (j ≡ i) × (p ≡ o) × Rose d e
HasCause Memory i j o p d e = (j ≡ i) × (p ≡ o) × (e ≡ d)
HasCause BadStore i j o p d e = ⊥
HasCause InputBound i j o p d e = (j ≡ i) × (p ≡ o) × (e ≡ d)

-- and of commands that were taken
abbrev pub StopCause : Status → (output_old output_new disk_old disk_new : ℕ) → Type 0
StopCause Done o p d e = ⊥
StopCause Usage o p d e = ⊥
StopCause ReadFault o p d e = ⊥
StopCause WriteFault o p d e = Rose o p × (e ≡ d)
StopCause DiskFault o p d e = (p ≡ o) × Rose d e
StopCause Memory o p d e = (p ≡ o) × (e ≡ d)
StopCause BadStore o p d e = ⊥
StopCause InputBound o p d e = ⊥

abbrev pub status_of : OpenStop → Status
status_of stop.Failed = DiskFault
status_of stop.BadStore = BadStore
status_of stop.Memory = Memory
