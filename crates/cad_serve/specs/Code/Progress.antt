-- How far a run has come.
use Rattle.std.specs.Prelude.{◌≡◌, ℕ, List, ◌∷◌, [], ◌++◌}
use Rattle.cad_host.specs.Disk.{Event, output, taken, reads}
use Rattle.cad_world.specs.State.{World}
use Rattle.cad_worlds.specs.Standing.{StandsFor}
use Rattle.cad_store.specs.declared.store.Store.{Store}
use Rattle.cad_store.specs.Stores.{held, IsOn}
use Rattle.cad_serve_parts.specs.Lines.{lines, commands_among, commands}
use Rattle.cad_serve_parts.specs.Code.Held.{Holds}
use Rattle.cad_serve.specs.Served.{Served, ServedSome, Broken}
use Rattle.cad_serve.specs.Writing.{Wrote, WroteSome, WroteBroken, WroteStopped}
use Rattle.cad_serve.specs.Crashes.{DiskStands, KeepsPrefix}
use Rattle.cad_serve_parts.specs.declared.line.Line.{Line}
use Rattle.cad_serve.specs.declared.status.Status.{Status}
use Rattle.cad_serve.specs.declared.status.Status.TheVariants.{Done, Usage, ReadFault, WriteFault, DiskFault, Memory, BadStore, InputBound}

-- of a run since base these commands were answered, and the store holds the World that they lead to
pub record Said (base : List Event) (w : World) (commands : List (List ℕ)) (old new : List Event) (store : Store) : Type 0 where
  pub world : World
  pub served : Served w commands (output old) (output new) world
  pub wrote : Wrote base w commands old new world
  pub stands : StandsFor (held store) world
  pub on : IsOn new store
  pub survives : KeepsPrefix w commands old new

-- why answering stopped, somewhere in these commands
abbrev pub Halts : Status → List Event → World → List (List ℕ) → List Event → List Event → Type 0
Halts Done base w commands old new = ⊥
Halts Usage base w commands old new = ⊥
Halts ReadFault base w commands old new = ⊥
Halts WriteFault base w commands old new = (v : World) × Broken w commands (output old) (output new) v × DiskStands (reads new) v × WroteBroken base w commands old new v
Halts DiskFault base w commands old new = (v : World) × ServedSome w commands (output old) (output new) v × WroteStopped base w commands old new v
Halts Memory base w commands old new = (v : World) × ServedSome w commands (output old) (output new) v × DiskStands (reads new) v × WroteSome base w commands old new v
Halts BadStore base w commands old new = ⊥
Halts InputBound base w commands old new = ⊥

pub record Halted (status : Status) (base : List Event) (w : World) (commands : List (List ℕ)) (old new : List Event) : Type 0 where
  pub halts : Halts status base w commands old new
  pub survives : KeepsPrefix w commands old new

-- Of the input some bytes were taken. Their whole lines were answered, and the line that follows is held.
pub record Going (line : Line) (store : Store) (w : World) (input : List ℕ) (base : List Event) (left : List ℕ) (now : List Event) : Type 0 where
  pub taken : List ℕ
  pub whole : List (List ℕ)
  pub pending : List ℕ
  pub input_is : input ≡ taken ++ left
  pub lines_are : lines taken ≡ whole ++ pending ∷ []
  pub holds : Holds line pending
  pub said : Said base w (commands_among whole) base now store

-- so between takes: all that was taken was gone over
pub record Between (line : Line) (store : Store) (w : World) (input : List ℕ) (base : List Event) (left : List ℕ) (now : List Event) : Type 0 where
  pub going : Going line store w input base left now
  pub all_taken : taken now ++ left ≡ taken base ++ input

-- these bytes are taken from what is left
abbrev pub Goes : Line → Store → Line → Store → List ℕ → List Event → List Event → Type 0
Goes line_old store_old line_new store_new bytes old new =
    (w : World) (input : List ℕ) (base : List Event) (left : List ℕ) → Going line_old store_old w input base (bytes ++ left) old → Going line_new store_new w input base left new

-- somewhere in these bytes the run stops
abbrev pub Stops : Status → Line → Store → List ℕ → List Event → List Event → Type 0
Stops status line store bytes old new =
    (w : World) (input : List ℕ) (base : List Event) (left : List ℕ) → Going line store w input base (bytes ++ left) old → Halted status base w (commands input) base new
