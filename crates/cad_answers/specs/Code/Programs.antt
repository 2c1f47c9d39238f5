-- The program that a command's code is, which is judged once.
use Rattle.std.specs.Prelude.{◌≡◌, ℕ, List, Option, Some, None}
use Rattle.serde_json.specs.Data.{Data}
use Rattle.cad_acceptance.specs.Acceptance.{AcceptsText, checked_of}
use Rattle.cad_accounts.specs.Registers.{Map}
use Rattle.cad_declarations.specs.declared.program.Checked.{Checked}
use Rattle.cad_runs.specs.Commands.{Command, transaction, script}
use Rattle.cad_run_worlds.specs.Worlds.{run_world}
use Rattle.cad_run_worlds.specs.declared.run_worlds.RunWorld.{RunWorld}
use Rattle.cad_world.specs.State.{World}
use Rattle.cad_worlds.specs.Standing.{StandsFor}
use Rattle.cad_answers.specs.Answer.{beside}

-- the code of a command that runs at no account
abbrev pub code_of : Command Data → Option (List ℕ)
code_of (transaction code arguments signers units) = Some code
code_of (script code arguments units) = Some code
code_of _ = None

-- whatever World registers stand for, code is accepted as this program beside its contracts
abbrev pub IsProgram : Map → List ℕ → Checked → Type 0
IsProgram m code x = (w : World) → StandsFor m w → AcceptsText (beside w) None code (checked_of x)

-- so is the code of a command
abbrev pub HasProgram : Map → Command Data → Checked → Type 0
HasProgram m command x = (code : List ℕ) → code_of command ≡ Some code → IsProgram m code x

-- what a run is told of the World that registers stand for: all of it, or some accounts
abbrev pub IsToldOf : Map → RunWorld → Type 0
IsToldOf m x = (w : World) → StandsFor m w → run_world w.accounts x ≡ w
