use Rattle.cad_command_runs.proofs.Entering.{begun_err, begun_ok}
use Rattle.cad_command_runs.proofs.entries.begin_entry.Goals as goal

pub returns-in-Ok : goal.returns-in-Ok
returns-in-Ok c =
    begun_ok c.args.state.now c.tick.new.self c.go_deeper.new.state c.go_deeper.result c.in-Ok.ensures c.go_deeper.ensures

pub returns-in-Err : goal.returns-in-Err
returns-in-Err c =
    begun_err c.args.state.now c.in-Err.stop c.in-Err.ensures
