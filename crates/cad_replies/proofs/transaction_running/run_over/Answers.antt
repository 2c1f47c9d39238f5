use Rattle.std.proofs.Common.{◌∙◌, ℕ, ap, refl, subst}
use Rattle.cad_declarations.specs.Views.{transaction_of}
use Rattle.cad_evaluation.specs.Evaluation.{calls_to}
use Rattle.cad_outcomes.specs.Outcomes.{no_value}
use Rattle.cad_rows.specs.Views.{pure_row}
use Rattle.cad_runs.proofs.Kept.{is_kept}
use Rattle.cad_runs.specs.Run.{bound, run_transaction}
use Rattle.cad_run_worlds.proofs.Runs.{fuel, ran_so}
use Rattle.cad_state.specs.Views.{program_of}
use Rattle.cad_transaction_ends.specs.OverStorable.{FindsAndCarriesOutOverStorable}
use Rattle.cad_world.specs.Begin.{begun}
use Rattle.cad_worlds.specs.Standing.{any_accepted}
use Rattle.cad_run_outcomes.proofs.Results.{if_ok}
use Rattle.cad_run_outcomes.proofs.SoundAccounts.{accounts_storable}
use Rattle.cad_run_outcomes.specs.Outcomes.{settled}
use Rattle.cad_replies.proofs.transaction_running.run_over.Goals as goal

pub returns : goal.returns
returns g c = λ w over sound.
    let front = g.E.FrontEnd.front c.args.end.now in
    let p = program_of c.args.checked.value in
    let kept = is_kept any_accepted w sound in
    let start = c.begin_over-state.result in
    let after = c.run_transaction-run.new.state in
    let action = λ (n : ℕ). run_transaction front (calls_to front n) n (transaction_of c.args.transaction.now) (pure_row c.args.row.items) c.args.signers.now in
    let outcome = settled (action (bound c.args.limit) (begun p c.args.limit w)) in
    if_ok c.outcome_of_run.result (λ it h. (outcome, refl {a = outcome}, h.0, h.1))
    (c.outcome_of_run.ensures (action (bound c.args.limit)) (begun p c.args.limit w) w.accounts kept.accounts
    (ran_so no_value (action (bound c.args.limit)) p c.args.limit w.accounts w start after c.run_transaction-run.result (c.begin_over-state.ensures w.accounts ∙ ap (begun p c.args.limit) over) kept.accounts kept
    (subst (λ (n : ℕ). FindsAndCarriesOutOverStorable no_value (action n) start after c.run_transaction-run.result) (fuel c.args.limit) c.run_transaction-run.ensures w.accounts (accounts_storable w sound))))
