-- Why a tape could not be read.
use Rattle.std.specs.Prelude.{◌≡◌, ℕ, ◌≤◌, List, Result, Ok, Err}
use Rattle.cad_host.specs.declared.host.Tape.{Tape}
use Rattle.cad_host.specs.Disk.{Event, FailsLook}
use Rattle.cad_host.specs.Faults.{Rose}
use Rattle.cad_wire.specs.declared.error.DecodeError.{DecodeError}
use Rattle.cad_wire.specs.declared.error.DecodeError.TheVariants as errors
use Rattle.cad_tape.specs.declared.stop.ScanStop.{ScanStop}
use Rattle.cad_tape.specs.declared.stop.ScanStop.TheVariants.{Failed, Damaged, Memory}

abbrev pub stop_of : DecodeError → ScanStop
stop_of errors.Damaged = Damaged
stop_of errors.Memory = Memory

-- the count of disk faults rose where the disk failed, and stays where it didn't
abbrev pub Blames : {T : Type 0} → Result T ScanStop → ℕ → ℕ → Type 0
Blames (Ok _) old new = new ≡ old
Blames (Err Failed) old new = (old ≤ new) × Rose old new
Blames (Err Damaged) old new = new ≡ old
Blames (Err Memory) old new = new ≡ old

-- where the disk failed, a look at the tape failed, and nothing else is told
abbrev pub Looked : {T : Type 0} → Tape → Result T ScanStop → List Event → List Event → Type 0
Looked t (Ok _) old new = new ≡ old
Looked t (Err Failed) old new = FailsLook t old new
Looked t (Err Damaged) old new = new ≡ old
Looked t (Err Memory) old new = new ≡ old
