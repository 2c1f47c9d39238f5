use Rattle.std.proofs.Common.{map, subst}
use Rattle.cad_declarations.specs.Views.{before_of, transaction_of}
use Rattle.cad_evaluation.specs.Bodies.{values_before}
use Rattle.cad_outcomes.specs.Outcomes.{no_value}
use Rattle.cad_state.specs.Views.{FindsAndCarriesOut}
use Rattle.cad_rows.specs.Views.{pure_row}
use Rattle.cad_command_runs.proofs.Staging.{to_before_err, to_before_ok}
use Rattle.cad_command_runs.proofs.stages.run_to_before.Goals as goal

pub returns-in-Ok : goal.returns-in-Ok
returns-in-Ok g c none =
    to_before_ok (g.C.Callees.front c.args.callees.now) (g.C.Callees.calls c.args.callees.now) c.args.turns (transaction_of c.args.transaction.now) (pure_row c.args.arguments.items) c.args.signers.now c.args.state.now c.run_to_pre.new.state c.keep_values.new.state c.keep_values.result (g.met.C.Callees.keeps c.args.callees.now) none (c.in-Ok.ensures none)
    (subst (λ l. FindsAndCarriesOut no_value (values_before (g.C.Callees.front c.args.callees.now) (g.C.Callees.calls c.args.callees.now) (map before_of l)) c.run_to_pre.new.state c.keep_values.new.state c.keep_values.result) c.as_slice.ensures.value c.keep_values.ensures)

pub returns-in-Err : goal.returns-in-Err
returns-in-Err g c none =
    to_before_err (g.C.Callees.front c.args.callees.now) (g.C.Callees.calls c.args.callees.now) c.args.turns (transaction_of c.args.transaction.now) (pure_row c.args.arguments.items) c.args.signers.now c.args.state.now c.in-Err.stop (c.in-Err.ensures none)
