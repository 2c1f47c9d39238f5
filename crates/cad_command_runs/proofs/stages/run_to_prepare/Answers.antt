use Rattle.cad_declarations.specs.Views.{transaction_of}
use Rattle.cad_rows.specs.Views.{pure_row}
use Rattle.cad_command_runs.proofs.Staging.{to_prepare_err, to_prepare_ok}
use Rattle.cad_command_runs.proofs.stages.run_to_prepare.Goals as goal

pub returns-in-Ok : goal.returns-in-Ok
returns-in-Ok g c none =
    to_prepare_ok (g.C.Callees.front c.args.callees.now) (g.C.Callees.calls c.args.callees.now) c.args.turns (transaction_of c.args.transaction.now) (pure_row c.args.arguments.items) c.args.signers.now c.args.state.now c.begin_transaction.new.state c.prepare.new.state c.prepare.result (g.met.C.Callees.keeps c.args.callees.now) none c.in-Ok.ensures c.prepare.ensures

pub returns-in-Err : goal.returns-in-Err
returns-in-Err g c none =
    to_prepare_err (g.C.Callees.front c.args.callees.now) (g.C.Callees.calls c.args.callees.now) c.args.turns (transaction_of c.args.transaction.now) (pure_row c.args.arguments.items) c.args.signers.now c.args.state.now c.in-Err.stop c.in-Err.ensures
