use Rattle.std.proofs.Common.{map, subst}
use Rattle.cad_declarations.specs.Views.{condition_of, transaction_of}
use Rattle.cad_evaluation.specs.Bodies.{all_tested}
use Rattle.cad_outcomes.specs.Outcomes.{no_value}
use Rattle.cad_state.specs.Views.{FindsAndCarriesOut}
use Rattle.cad_rows.specs.Views.{pure_row}
use Rattle.cad_command_runs.proofs.Staging.{to_pre_err, to_pre_ok}
use Rattle.cad_command_runs.proofs.stages.run_to_pre.Goals as goal

pub returns-in-Ok : goal.returns-in-Ok
returns-in-Ok g c none =
    to_pre_ok (g.C.Callees.front c.args.callees.now) (g.C.Callees.calls c.args.callees.now) c.args.turns (transaction_of c.args.transaction.now) (pure_row c.args.arguments.items) c.args.signers.now c.args.state.now c.run_to_prepare.new.state c.test_conditions.new.state c.test_conditions.result (g.met.C.Callees.keeps c.args.callees.now) none (c.in-Ok.ensures none)
    (subst (λ l. FindsAndCarriesOut no_value (all_tested (g.C.Callees.front c.args.callees.now) (g.C.Callees.calls c.args.callees.now) (map condition_of l)) c.run_to_prepare.new.state c.test_conditions.new.state c.test_conditions.result) c.as_slice.ensures.value c.test_conditions.ensures)

pub returns-in-Err : goal.returns-in-Err
returns-in-Err g c none =
    to_pre_err (g.C.Callees.front c.args.callees.now) (g.C.Callees.calls c.args.callees.now) c.args.turns (transaction_of c.args.transaction.now) (pure_row c.args.arguments.items) c.args.signers.now c.args.state.now c.in-Err.stop (c.in-Err.ensures none)
