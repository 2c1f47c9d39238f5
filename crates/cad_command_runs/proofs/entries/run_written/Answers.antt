use Rattle.cad_declarations.specs.Views.{block_of}
use Rattle.cad_command_runs.proofs.Entering.{written_err, written_ok}
use Rattle.cad_command_runs.proofs.entries.run_written.Goals as goal

pub returns-in-Ok : goal.returns-in-Ok
returns-in-Ok g c =
    written_ok (g.C.Callees.front c.args.callees.now) (g.C.Callees.calls c.args.callees.now) c.args.turns (block_of c.args.body.now) c.args.state.now c.run_body.new.state c.come_back.new.state c.in-Ok.ensures c.come_back.ensures

pub returns-in-Err : goal.returns-in-Err
returns-in-Err g c =
    written_err (g.C.Callees.front c.args.callees.now) (g.C.Callees.calls c.args.callees.now) c.args.turns (block_of c.args.body.now) c.args.state.now c.in-Err.stop c.in-Err.ensures
