-- What a host in memory tells, and which of its calls are to fail.
use Rattle.std.specs.Prelude.{◌≡◌, ◌⊎◌, ℕ, ◌/◌, Bool, List, [], ◌∷◌, length, take}
use Rattle.cad_host.specs.declared.memory.MemHost.{MemHost}
use Rattle.cad_host.specs.declared.host.Tape.{Tape}
use Rattle.cad_host.specs.Disk.{Event, broke, put_part, reads}
use Rattle.cad_host.specs.Record.{half_written}
use Rattle.cad_host.specs.Schedule.{fails_next, Counted, Kept}

-- whether the next call of a kind is one of those that are to fail
abbrev pub take_fails : MemHost → Bool
take_fails host = fails_next host.takes.failing.items host.takes.calls

abbrev pub put_fails : MemHost → Bool
put_fails host = fails_next host.puts.failing.items host.puts.calls

abbrev pub disk_fails : MemHost → Bool
disk_fails host = fails_next host.disks.failing.items host.disks.calls

-- the calls of these numbers are to fail, and there were none so far
pub record IsPlanned (host : MemHost) (takes puts disks : List ℕ) : Type 0 where
  pub failing_takes : host.takes.failing.items ≡ takes
  pub failing_puts : host.puts.failing.items ≡ puts
  pub failing_disks : host.disks.failing.items ≡ disks
  pub no_takes : host.takes.calls ≡ 0
  pub no_puts : host.puts.calls ≡ 0
  pub no_disks : host.disks.calls ≡ 0

-- no call failed
pub record HasNoFaults (host : MemHost) : Type 0 where
  pub input : host.input_faults ≡ 0
  pub output : host.output_faults ≡ 0
  pub disk : host.disk_faults ≡ 0

-- no call is to fail
pub record IsSure (host : MemHost) : Type 0 where
  pub takes : host.takes.failing.items ≡ []
  pub puts : host.puts.failing.items ≡ []
  pub disks : host.disks.failing.items ≡ []

-- a call of one kind was counted, or none, and the same calls are to fail
pub record CountsTake (old new : MemHost) : Type 0 where
  pub takes : Counted old.takes new.takes
  pub puts : Kept old.puts new.puts
  pub disks : Kept old.disks new.disks

pub record CountsPut (old new : MemHost) : Type 0 where
  pub takes : Kept old.takes new.takes
  pub puts : Counted old.puts new.puts
  pub disks : Kept old.disks new.disks

pub record CountsDisk (old new : MemHost) : Type 0 where
  pub takes : Kept old.takes new.takes
  pub puts : Kept old.puts new.puts
  pub disks : Counted old.disks new.disks

pub record CountsNone (old new : MemHost) : Type 0 where
  pub takes : Kept old.takes new.takes
  pub puts : Kept old.puts new.puts
  pub disks : Kept old.disks new.disks

-- What a call that is to fail adds, or nothing where no memory is found. A put or a write leaves the first half of its bytes.
abbrev pub PutsHalf : List ℕ → List Event → List Event → Type 0
PutsHalf bytes old new = (new ≡ old) ⊎ (new ≡ put_part (take (length bytes / 2) bytes) ∷ old)

abbrev pub WritesHalf : Tape → ℕ → List ℕ → List Event → List Event → Type 0
WritesHalf tape at bytes old new = (new ≡ old) ⊎ (new ≡ broke tape at (length bytes) (half_written (reads old tape) at bytes) ∷ old)

abbrev pub SyncsNothing : Tape → List Event → List Event → Type 0
SyncsNothing tape old new = (new ≡ old) ⊎ (new ≡ broke tape 0 0 (reads old tape) ∷ old)
