-- What a run takes and writes, and when its replies are put.
use Rattle.std.specs.Prelude.{◌≡◌, ◌≢◌, ℕ, List, [], ◌∷◌, ◌++◌}
use Rattle.cad_host.specs.Disk.{Event, put, took, BreaksPut}
use Rattle.cad_wire.specs.declared.entry.Entry.{Entry}
use Rattle.cad_wire.specs.Body.{body_bytes}
use Rattle.cad_accounts.specs.Registers.{Map, Leads}
use Rattle.cad_world.specs.State.{World}
use Rattle.cad_worlds.specs.Standing.{StandsFor}
use Rattle.cad_store.specs.Stores.{recorded, BreaksRecord}
use Rattle.serde_json.specs.Data.{Data}
use Rattle.cad_runs.specs.Commands.{Reply}
use Rattle.cad_answers.specs.Answer.{Answers, answer_line}
use Rattle.cad_serve.specs.Replied.{HasReplied}

-- What a command writes: nothing, where it leaves the World as it was; or one record, of exactly the registers that
-- differ, and some do.
pub data Written (w v : World) (old new : List Event) : Type 0 where
  nothing : v ≡ w → new ≡ old → Written w v old new
  one_record : {before behind : Map} {changes : List Entry} → StandsFor before w → StandsFor behind v → Leads before behind changes → changes ≢ []
      → new ≡ recorded (body_bytes changes) old → Written w v old new

-- Takes of these bytes and no other calls. Before each of them every command that a line feed had ended had its reply, of
-- those that ended since base.
abbrev pub TakesAll : (base : List Event) → List (List ℕ) → (old new : List Event) → Type 0
TakesAll base [] old new = new ≡ old
TakesAll base (bytes ∷ chunks) old new = HasReplied base old × TakesAll base chunks (took bytes ∷ old) new

-- takes and no other calls
abbrev pub TakesInput : (base old new : List Event) → Type 0
TakesInput base old new = (chunks : List (List ℕ)) × TakesAll base chunks old new

-- All calls of these commands in turn, with the takes between them: what each changes is written, and then the line of its
-- answer is put. No call of them failed.
abbrev pub Wrote : (base : List Event) → World → List (List ℕ) → (old new : List Event) → World → Type 0
Wrote base w [] old new v = (v ≡ w) × TakesInput base old new
Wrote base w (command ∷ commands) old new v =
    (a : Reply Data) × (u : World) × (begun : List Event) × (mid : List Event) × TakesInput base old begun × Answers w command a u × Written w u begun mid
    × Wrote base u commands (put (answer_line a) ∷ mid) new v

-- those of the first of these commands
pub record WroteSome (base : List Event) (w : World) (commands : List (List ℕ)) (old new : List Event) (v : World) : Type 0 where
  pub first : List (List ℕ)
  pub rest : List (List ℕ)
  pub are : commands ≡ first ++ rest
  pub wrote : Wrote base w first old new v

-- those of the first of these commands; then what the next one changes is written, and the line of its answer breaks
pub record WroteBroken (base : List Event) (w : World) (commands : List (List ℕ)) (old new : List Event) (v : World) : Type 0 where
  pub first : List (List ℕ)
  pub next : List ℕ
  pub rest : List (List ℕ)
  pub are : commands ≡ first ++ next ∷ rest
  pub world : World
  pub told : List Event
  pub wrote : Wrote base w first old told world
  pub answer : Reply Data
  pub answers : Answers world next answer v
  pub behind : List Event
  pub written : Written world v told behind
  pub broke : BreaksPut (answer_line answer) behind new

-- One of the disk calls that write what the next command changes broke.
pub data Stopped (w : World) (old new : List Event) : List (List ℕ) → Type 0 where
  writing : {next : List ℕ} {rest : List (List ℕ)} {a : Reply Data} {v : World} {before behind : Map} {changes : List Entry} → Answers w next a v → StandsFor before w → StandsFor behind v
      → Leads before behind changes → changes ≢ [] → BreaksRecord (body_bytes changes) old new → Stopped w old new (next ∷ rest)

-- those of the first of these commands; then a call of the disk broke
pub record WroteStopped (base : List Event) (w : World) (commands : List (List ℕ)) (old new : List Event) (v : World) : Type 0 where
  pub first : List (List ℕ)
  pub rest : List (List ℕ)
  pub are : commands ≡ first ++ rest
  pub told : List Event
  pub wrote : Wrote base w first old told v
  pub stopped : Stopped v told new rest
