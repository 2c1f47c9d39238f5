use Rattle.cad_declarations.specs.Views.{transaction_of}
use Rattle.cad_command_runs.proofs.Staging.{prepared_err, prepared_ok}
use Rattle.cad_command_runs.proofs.stages.prepare.Goals as goal

pub returns-in-Ok : goal.returns-in-Ok
returns-in-Ok g c =
    prepared_ok (g.C.Callees.front c.args.callees.now) (g.C.Callees.calls c.args.callees.now) c.args.turns (transaction_of c.args.transaction.now) c.args.signers.now c.args.state.now c.run_over_signers.new.state c.end_signers.new.state c.end_signers.result c.in-Ok.ensures c.end_signers.ensures

pub returns-in-Err : goal.returns-in-Err
returns-in-Err g c =
    prepared_err (g.C.Callees.front c.args.callees.now) (g.C.Callees.calls c.args.callees.now) c.args.turns (transaction_of c.args.transaction.now) c.args.signers.now c.args.state.now c.in-Err.stop c.in-Err.ensures
