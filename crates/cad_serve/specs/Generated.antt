-- What is counted of a generated session, and the line that tells it.
use Rattle.std.specs.Prelude.{◌≡◌, ℕ, Bool, true, false, List, [], ◌∷◌, ◌++◌, length, filter, codes, decimal}
use Rattle.std.specs.List.{flat_map}
use Rattle.serde_json.specs.Data.{Data}
use Rattle.cad_generation.specs.Lines.{generated}
use Rattle.cad_runs.specs.Commands.{Reply, ran, failed, ill, is_ok}
use Rattle.cad_world.specs.Begin.{empty_world}
use Rattle.cad_world.specs.Live.{live}
use Rattle.cad_world.specs.State.{World}
use Rattle.cad_serve.specs.Served.{AnswersAll}
use Rattle.cad_serve.specs.declared.status.Status.{Status}
use Rattle.cad_serve.specs.declared.status.Status.TheVariants.{Done, Usage, ReadFault, WriteFault, DiskFault, Memory, BadStore, InputBound}

-- the identities that a reply tells of
abbrev pub made_by : Reply Data → List ℕ
made_by (ran made destroyed events) = made
made_by _ = []

abbrev pub destroyed_by : Reply Data → List ℕ
destroyed_by (ran made destroyed events) = destroyed
destroyed_by _ = []

-- a run failed
abbrev pub is_failed : Reply Data → Bool
is_failed (failed n) = true
is_failed ill = true
is_failed _ = false

-- how many lines there were, how many of them were replied to with ok and with failed, how many identities were made and
-- destroyed, and how many live in the end
abbrev pub counts_text : (gone errors all left born well : ℕ) → List ℕ
counts_text gone errors all left born well =
    codes "{\"destroyed\":\"" ++ decimal gone ++ codes "\",\"failed\":\"" ++ decimal errors ++ codes "\",\"lines\":\"" ++ decimal all
    ++ codes "\",\"live\":\"" ++ decimal left ++ codes "\",\"made\":\"" ++ decimal born ++ codes "\",\"ok\":\"" ++ decimal well ++ codes "\"}" ++ 10 ∷ []

abbrev pub counts_line : List (Reply Data) → World → List ℕ
counts_line answers w =
    counts_text (length (flat_map destroyed_by answers)) (length (filter is_failed answers)) (length answers) (length (live w))
    (length (flat_map made_by answers)) (length (filter is_ok answers))

-- The line of the counts of a generated session: each of its lines is run as a command, one after another, from no accounts on.
pub record IsCountsLine (n : ℕ) (line : List ℕ) : Type 0 where
  pub answers : List (Reply Data)
  pub world : World
  pub are : AnswersAll empty_world (generated n) answers world
  pub is : line ≡ counts_line answers world

-- the statuses of such a session
abbrev pub EndsGenerated : Status → Type 0
EndsGenerated Done = Unit {0}
EndsGenerated Usage = ⊥
EndsGenerated ReadFault = ⊥
EndsGenerated WriteFault = Unit {0}
EndsGenerated DiskFault = ⊥
EndsGenerated Memory = Unit {0}
EndsGenerated BadStore = ⊥
EndsGenerated InputBound = ⊥
