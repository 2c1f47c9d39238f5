use Rattle.std.proofs.Common.{rules}
use Rattle.cad_commands.proofs.Lines.{is_json, no_json}
use Rattle.cad_commands.proofs.line.json_of.Goals as goal

pub returns-in-Ok : goal.returns-in-Ok
returns-in-Ok c = is_json c.args.line.now _ c.in-Ok.ensures.ok.0 c.in-Ok.ensures.ok.1

pub returns-else-is_memory : goal.returns-else-is_memory
returns-else-is_memory c = no_json c.args.line.now (c.in-Err.ensures.err (search rules))
