use Rattle.std.proofs.Common.{◌∙◌, ℕ, [], ap, refl, subst}
use Rattle.cad_command_runs.specs.Passed.{FindsAndCarriesOutOverStorable, calls_to, no_value}
use Rattle.cad_rows.specs.Views.{pure_row}
use Rattle.cad_runs.specs.Run.{bound, run_deploy}
use Rattle.cad_run_worlds.proofs.Runs.{fuel, ran_so}
use Rattle.cad_state.specs.Views.{contract_of, program_of}
use Rattle.cad_run_outcomes.proofs.Results.{if_ok}
use Rattle.cad_run_outcomes.specs.Outcomes.{settled}
use Rattle.cad_world.specs.Begin.{begun}
use Rattle.cad_worlds.specs.Standing.{world_of}
use Rattle.cad_replies.proofs.deployment_running.run_over.Goals as goal

-- where all accounts are known, it doesn't matter which others there are: there are none
pub returns-in-Ok : goal.returns-in-Ok
returns-in-Ok g c = λ kept.
    let front = g.E.FrontEnd.front c.args.end.now in
    let w = world_of c.args.world in
    let p = program_of c.args.checked.value in
    let start = c.begin_over-state.result in
    let after = c.run_deploy-run.new.state in
    let action = λ (n : ℕ). run_deploy (calls_to front n) (contract_of c.args.contract) (pure_row c.args.row.items) in
    let outcome = settled (action (bound c.args.limit) (begun p c.args.limit w)) in
    let ran = c.in-Ok.ensures (action (bound c.args.limit)) (begun p c.args.limit w) [] refl
    (ran_so no_value (action (bound c.args.limit)) p c.args.limit [] w start after c.run_deploy-run.result (c.begin_over-state.ensures [] ∙ ap (begun p c.args.limit) (c.of_world-all.ensures [])) refl kept
    (subst (λ (n : ℕ). FindsAndCarriesOutOverStorable no_value (action n) start after c.run_deploy-run.result) (fuel c.args.limit) c.run_deploy-run.ensures [] (record { storable = refl; low = refl }))) in
    if_ok c.whole_outcome.result (λ it told. (outcome, refl {a = outcome}, ran.0, told)) (c.whole_outcome.ensures outcome ran.1)
