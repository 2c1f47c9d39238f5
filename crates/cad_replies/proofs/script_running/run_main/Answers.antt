use Rattle.std.proofs.Common.{◌∙◌, ℕ, map, ap, subst}
use Rattle.cad_evaluation.specs.Evaluation.{calls_to}
use Rattle.cad_rows.specs.Views.{pure_row}
use Rattle.cad_runs.specs.Run.{bound, run_script}
use Rattle.cad_state.specs.Views.{FindsAndCarriesOut, contract_of, program_of, state_over}
use Rattle.cad_values.specs.Values.{pure_value}
use Rattle.cad_world.specs.Begin.{begun}
use Rattle.cad_run_worlds.proofs.Runs.{fuel, ran_so}
use Rattle.cad_replies.proofs.ScriptTold.{ran_told}
use Rattle.cad_replies.proofs.script_running.run_main.Goals as goal

pub returns : goal.returns
returns g c = λ w is kept.
    let front = g.E.FrontEnd.front c.args.end.now in
    let p = program_of c.args.checked.value in
    let row = pure_row c.args.row.items in
    let start = c.begin_over-state.result in
    let after = c.run_script-outcome.new.state in
    ran_told front w p row c.args.limit (state_over w.accounts after) (map contract_of c.as_slice.result.now) c.run_script-outcome.result c.reply_to-reply.result c.reply_over.result c.reply_over.ensures (ap (map contract_of) c.as_slice.ensures.value)
    (ran_so pure_value (run_script (calls_to front (bound c.args.limit)) row) p c.args.limit w.accounts w start after c.run_script-outcome.result (c.begin_over-state.ensures w.accounts ∙ ap (begun p c.args.limit) is) kept.accounts kept
    (subst (λ (n : ℕ). FindsAndCarriesOut pure_value (run_script (calls_to front n) row) start after c.run_script-outcome.result) (fuel c.args.limit) c.run_script-outcome.ensures w.accounts))
    c.reply_to-reply.ensures
