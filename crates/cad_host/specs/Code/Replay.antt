-- A replay of a record of calls.
use Rattle.std.specs.Prelude.{◌≡◌, ℕ, ◌≤◌, List, length}
use Rattle.cad_host.specs.Disk.{TapeState}
use Rattle.cad_host.specs.Crash.{IsFilledImage}

-- what is replayed of a tape: what it reads, and the image
pub record IsReplayed (fill : ℕ) (s : TapeState) (reads image : List ℕ) : Type 0 where
  pub reads_so : reads ≡ s.reads
  pub settled_so : s.settled ≤ length s.reads
  pub image_so : IsFilledImage fill s image
