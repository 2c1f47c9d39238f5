use Rattle.std.proofs.Common.{ap, option_map}
use Rattle.cad_declarations.specs.Views.{block_of}
use Rattle.cad_command_runs.proofs.Entering.{entry_some}
use Rattle.cad_command_runs.proofs.entries.run_entry.Goals as goal

pub returns-in-Some : goal.returns-in-Some
returns-in-Some g c =
    entry_some (g.C.Callees.front c.args.callees.now) (g.C.Callees.calls c.args.callees.now) c.args.turns (option_map block_of c.args.body.now) (block_of c.in-Some.block) c.args.state.now c.run_written.new.state c.run_written.result (ap (option_map block_of) c.in-Some.is) c.run_written.ensures
