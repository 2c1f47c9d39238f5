use Rattle.cad_declarations.specs.Views.{transaction_of}
use Rattle.cad_rows.specs.Views.{pure_row}
use Rattle.cad_command_runs.proofs.Staging.{to_execute_err, to_execute_ok}
use Rattle.cad_command_runs.proofs.stages.run_to_execute.Goals as goal

pub returns-in-Ok : goal.returns-in-Ok
returns-in-Ok g c none =
    to_execute_ok (g.C.Callees.front c.args.callees.now) (g.C.Callees.calls c.args.callees.now) c.args.turns (transaction_of c.args.transaction.now) (pure_row c.args.arguments.items) c.args.signers.now c.args.state.now c.run_to_before.new.state c.run_entry.new.state c.run_entry.result (g.met.C.Callees.keeps c.args.callees.now) none (c.in-Ok.ensures none) c.run_entry.ensures

pub returns-in-Err : goal.returns-in-Err
returns-in-Err g c none =
    to_execute_err (g.C.Callees.front c.args.callees.now) (g.C.Callees.calls c.args.callees.now) c.args.turns (transaction_of c.args.transaction.now) (pure_row c.args.arguments.items) c.args.signers.now c.args.state.now c.in-Err.stop (c.in-Err.ensures none)
