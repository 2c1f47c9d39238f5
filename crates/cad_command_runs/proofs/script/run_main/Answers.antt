use Rattle.std.proofs.Common.{subst}
use Rattle.cad_evaluation.specs.Evaluation.{calls_to}
use Rattle.cad_outcomes.specs.Outcomes.{Gives}
use Rattle.cad_rows.specs.Views.{pure_row, pure_tree}
use Rattle.cad_runs.specs.Run.{told}
use Rattle.cad_command_runs.proofs.ScriptRuns.{script_ran, script_stopped}
use Rattle.cad_values.specs.Values.{pure_value}
use Rattle.cad_command_runs.proofs.script.run_main.Goals as goal

pub returns-in-Ok : goal.returns-in-Ok
returns-in-Ok g c is =
    script_ran (calls_to (g.E.FrontEnd.front c.args.end.now) c.args.fuel) c.args.name.now (pure_row c.args.arguments.items) c.in-Ok.value c.args.state.now c.call_function.new.state c.told.result is c.in-Ok.ensures
    (subst (λ t. Gives pure_value (told (pure_tree t)) c.told.result) c.unboxed.ensures c.told.ensures)

pub returns-in-Err : goal.returns-in-Err
returns-in-Err g c is =
    script_stopped (calls_to (g.E.FrontEnd.front c.args.end.now) c.args.fuel) c.args.name.now (pure_row c.args.arguments.items) c.args.state.now c.call_function.new.state c.in-Err.stop is c.in-Err.ensures
