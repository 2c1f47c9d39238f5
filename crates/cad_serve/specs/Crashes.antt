-- What tapes stand for, and what a crash leaves of a run.
use Rattle.std.specs.Prelude.{ℕ, ◌+◌, ◌≤◌, List, length, take}
use Rattle.cad_host.specs.declared.host.Tape.{Tape}
use Rattle.cad_host.specs.Disk.{Event, output, IsDisk, Ran}
use Rattle.cad_accounts.specs.Registers.{Map}
use Rattle.cad_world.specs.State.{World}
use Rattle.cad_worlds.specs.Standing.{StandsFor}
use Rattle.cad_store.specs.Opening.{opened, IsOpening}
use Rattle.cad_store.specs.Stores.{DiskHolds}
use Rattle.serde_json.specs.Data.{Data}
use Rattle.cad_runs.specs.Commands.{Reply}
use Rattle.cad_serve.specs.Replied.{line_feeds, acknowledged}
use Rattle.cad_serve.specs.Served.{AnswersAll}

-- tapes whose records make the registers of this World
pub record DiskStands (disk : Tape → List ℕ) (w : World) : Type 0 where
  pub map : Map
  pub holds : DiskHolds disk map
  pub stands : StandsFor map w

-- The tapes stand for the World after the first of these commands: each that was acknowledged, and at most one more.
pub record HasPrefix (w : World) (commands : List (List ℕ)) (known : ℕ) (disk : Tape → List ℕ) : Type 0 where
  pub count : ℕ
  pub within : count ≤ length commands
  pub each_known : known ≤ count
  pub one_more : count ≤ known + 1
  pub answers : List (Reply Data)
  pub world : World
  pub are : AnswersAll w (take count commands) answers world
  pub stands : DiskStands disk world

-- so does each image at this moment
pub record IsPrefix (w : World) (commands : List (List ℕ)) (old m : List Event) : Type 0 where
  pub grown : line_feeds (output old) ≤ line_feeds (output m)
  pub disk : (disk : Tape → List ℕ) → IsDisk m disk → HasPrefix w commands (acknowledged old m) disk

-- and at each moment of a run that begins with nothing pending
abbrev pub KeepsPrefix : World → List (List ℕ) → List Event → List Event → Type 0
KeepsPrefix w commands old new = Ran old new (IsPrefix w commands old)

-- At each moment of the opening each image is one from before it, and no output has come. Where the opening succeeded, each
-- image from its end on stands for the World after the first of the commands.
pub data Survives (w : World) (commands : List (List ℕ)) (old new : List Event) : Type 0 where
  in_opening : Ran old new (IsOpening old) → Survives w commands old new
  after_opening : Ran old (opened old) (IsOpening old) → KeepsPrefix w commands (opened old) new → Survives w commands old new
