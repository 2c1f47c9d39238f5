use Rattle.std.proofs.Common.{map, subst, Ok}
use Rattle.cad_calls.proofs.Steps.{FailsAnyhow}
use Rattle.cad_declarations.specs.Views.{transaction_of, variable_of}
use Rattle.cad_outcomes.specs.Outcomes.{no_value}
use Rattle.cad_runs.specs.Run.{signer_row, with_signers}
use Rattle.cad_state.specs.Views.{CarriesOut}
use Rattle.cad_command_runs.proofs.Staging.{signers_err, signers_ok}
use Rattle.cad_command_runs.proofs.stages.run_over_signers.Goals as goal

pub returns-in-Ok : goal.returns-in-Ok
returns-in-Ok g c =
    signers_ok (g.C.Callees.front c.args.callees.now) (g.C.Callees.calls c.args.callees.now) c.args.turns (transaction_of c.args.transaction.now) c.args.signers.now c.args.state.now c.with_signers.new.state c.run_entry.new.state c.run_entry.result
    (subst (λ l. CarriesOut no_value (with_signers (signer_row (map variable_of l) c.args.signers.now)) c.args.state.now c.with_signers.new.state (Ok tt)) c.as_slice.ensures.value c.in-Ok.ensures)
    c.run_entry.ensures

pub returns-in-Err : goal.returns-in-Err
returns-in-Err g c =
    signers_err (g.C.Callees.front c.args.callees.now) (g.C.Callees.calls c.args.callees.now) c.args.turns (transaction_of c.args.transaction.now) c.args.signers.now c.args.state.now c.in-Err.stop
    (subst (λ l. FailsAnyhow (with_signers (signer_row (map variable_of l) c.args.signers.now)) c.args.state.now c.in-Err.stop) c.as_slice.ensures.value c.in-Err.ensures)
