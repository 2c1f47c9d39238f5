-- Why a store could not be opened.
use Rattle.std.specs.Prelude.{◌≡◌, ℕ, ◌≤◌, Result, Ok, Err}
use Rattle.cad_host.specs.Faults.{Rose}
use Rattle.cad_tape.specs.declared.stop.ScanStop.{ScanStop}
use Rattle.cad_tape.specs.declared.stop.ScanStop.TheVariants as scan
use Rattle.cad_store.specs.declared.stops.OpenStop.{OpenStop}
use Rattle.cad_store.specs.declared.stops.OpenStop.TheVariants.{Failed, BadStore, Memory}

abbrev pub stop_of : ScanStop → OpenStop
stop_of scan.Failed = Failed
stop_of scan.Damaged = BadStore
stop_of scan.Memory = Memory

-- the count of disk faults rose where the disk failed, and stays where it didn't
abbrev pub BlamesDisk : {T : Type 0} → Result T OpenStop → ℕ → ℕ → Type 0
BlamesDisk (Ok _) old new = new ≡ old
BlamesDisk (Err Failed) old new = (old ≤ new) × Rose old new
BlamesDisk (Err BadStore) old new = new ≡ old
BlamesDisk (Err Memory) old new = new ≡ old
