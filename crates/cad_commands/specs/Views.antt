-- The commands that values of the program are.
use Rattle.std.specs.Prelude.{ℕ, map, Result, Ok, Err}
use Rattle.serde_json.specs.Data.{Data}
use Rattle.serde_json.specs.View.{view}
use Rattle.cad_runs.specs.Commands as runs
use Rattle.cad_commands.specs.Commands as spec
use Rattle.cad_commands.specs.declared.run.Run.{Run}
use Rattle.cad_commands.specs.declared.kinds.Command.{Command}
use Rattle.cad_commands.specs.declared.kinds.Command.TheVariants as c

abbrev pub pure_command : Command → runs.Command Data
pure_command c.Account = runs.account
pure_command (c.Deploy address name code arguments limit) = runs.deploy address name code (map view arguments.items) limit
pure_command (c.Transaction code arguments signers limit) = runs.transaction code (map view arguments.items) signers.items limit
pure_command (c.Script code arguments limit) = runs.script code (map view arguments.items) limit
pure_command (c.Refused n) = runs.refused n

abbrev pub run_result : Result Run ℕ → Result spec.Run ℕ
run_result (Ok run) = Ok (record { code = run.code; arguments = map view run.arguments.items; limit = run.limit })
run_result (Err n) = Err n
