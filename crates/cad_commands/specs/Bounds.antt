-- Laws of commands.
use Rattle.std.specs.Prelude.{◌≡◌, ◌≤◌, ℕ, List, Option, Some, None}
use Rattle.serde_json.specs.Data.{Data}
use Rattle.cad_runs.specs.Commands.{Command, account, deploy, transaction, script, refused}
use Rattle.cad_commands.specs.Commands.{command_of}

-- the units that a command may take
abbrev pub units_of : Command Data → Option ℕ
units_of account = None
units_of (deploy address name code arguments limit) = Some limit
units_of (transaction code arguments signers limit) = Some limit
units_of (script code arguments limit) = Some limit
units_of (refused n) = None

abbrev pub IsBounded : Command Data → Type 0
IsBounded c = (limit : ℕ) → units_of c ≡ Some limit → (1 ≤ limit) × (limit ≤ 1000000)

-- whatever a line asks for takes from 1 to 1,000,000 units, if any
abbrev pub LimitsAreBounded : Type 0
LimitsAreBounded = (line : List ℕ) → IsBounded (command_of line)
