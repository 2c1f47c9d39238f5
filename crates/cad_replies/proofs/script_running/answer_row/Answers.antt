use Rattle.std.proofs.Common.{◌≢◌, IfOk, subst}
use Rattle.serde_json.specs.Data.{Data}
use Rattle.cad_declarations.specs.declared.program.Checked.{Checked}
use Rattle.cad_rows.specs.Views.{pure_row}
use Rattle.cad_runs.specs.Commands.{Reply, failed}
use Rattle.cad_state.specs.Views.{program_of}
use Rattle.cad_replies.specs.Scripts.{Ran}
use Rattle.cad_run_worlds.specs.Views.{Tells}
use Rattle.cad_replies.proofs.script_running.answer_row.Goals as goal

-- the copy of the Rc has the same program
pub returns-in-Ok : goal.returns-in-Ok
returns-in-Ok g c = λ w is kept.
    let front = g.E.FrontEnd.front c.args.end.now in
    subst (λ (x : Checked). IfOk c.run_main.result (λ it. (reply : Reply Data) × Ran front w (program_of x) (pure_row c.args.row.items) c.args.limit reply × (reply ≢ failed 0) × Tells it reply)) c.in-Ok.ensures
    (c.run_main.ensures w is kept)
