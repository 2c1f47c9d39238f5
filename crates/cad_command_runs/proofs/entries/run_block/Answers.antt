use Rattle.cad_declarations.specs.Views.{block_of}
use Rattle.cad_command_runs.proofs.Entering.{flow_err, flow_ok}
use Rattle.cad_command_runs.proofs.entries.run_block.Goals as goal

pub returns-in-Ok : goal.returns-in-Ok
returns-in-Ok g c =
    flow_ok (g.C.Callees.front c.args.callees.now) (g.C.Callees.calls c.args.callees.now) c.args.turns (block_of c.args.body.now) c.args.state.now c.begin_entry.new.state c.exec_block.new.state c.exec_block.result c.in-Ok.ensures c.exec_block.ensures

pub returns-in-Err : goal.returns-in-Err
returns-in-Err g c =
    flow_err (g.C.Callees.front c.args.callees.now) (g.C.Callees.calls c.args.callees.now) c.args.turns (block_of c.args.body.now) c.args.state.now c.in-Err.stop c.in-Err.ensures
