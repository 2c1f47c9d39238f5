-- A call of `main`, and its result as a value.
use Rattle.std.proofs.Common.{◌≡◌, subst}
use Rattle.std.specs.Global.{Box}
use Rattle.std.specs.Prelude.{Result, Ok, Err}
use Rattle.cad_calls.specs.Passed.{tree_in}
use Rattle.cad_evaluation.specs.Callees.{function, Calls}
use Rattle.cad_command_runs.specs.Code.Scripts.{called}
use Rattle.cad_outcomes.proofs.Steps.{gives_here, stopped, then}
use Rattle.cad_outcomes.specs.Outcomes.{Gives}
use Rattle.cad_outcomes.specs.declared.stop.Stop.{Stop}
use Rattle.cad_rows.specs.declared.tree.Tree.{Tree}
use Rattle.cad_runs.specs.Run.{main_name, run_script, told}
use Rattle.cad_state.specs.Views.{state_over, FindsAndCarriesOut}
use Rattle.cad_state.specs.declared.state.RunState.{RunState}
use Rattle.cad_syntax.specs.declared.text.Name.{Name}
use Rattle.cad_values.specs.Values.{pure_value}
use Rattle.cad_values.specs.declared.value.Value.{Value}
use Rattle.cad_world.specs.Rows.{Row}
use Rattle.cad_world.specs.State.{tick, ◌>>◌}

-- what is called by this name is `main`
main_called : (calls : Calls) (name : Name) (row : Row) (x y : RunState) (r : Result (Box Tree) Stop) → name ≡ main_name
    → FindsAndCarriesOut tree_in (called calls name row) x y r → FindsAndCarriesOut tree_in (tick >> calls (function main_name) row) x y r
unfolding called
main_called calls name row x y r is h = subst (λ (n : Name). FindsAndCarriesOut tree_in (called calls n row) x y r) is h

pub script_ran : (calls : Calls) (name : Name) (row : Row) (b : Box Tree) (x y : RunState) (r : Result Value Stop) → name ≡ main_name
    → FindsAndCarriesOut tree_in (called calls name row) x y (Ok b) → Gives pure_value (told (tree_in b)) r → FindsAndCarriesOut pure_value (run_script calls row) x y r
script_ran calls name row b x y r is first second w ready =
    then pure_value (tick >> calls (function main_name) row) told (tree_in b) (state_over w x) (state_over w y) (state_over w y) r
    (main_called calls name row x y (Ok b) is first w ready) (gives_here pure_value (told (tree_in b)) r (state_over w y) second)

pub script_stopped : (calls : Calls) (name : Name) (row : Row) (x y : RunState) (stop : Stop) → name ≡ main_name
    → FindsAndCarriesOut tree_in (called calls name row) x y (Err stop) → FindsAndCarriesOut {B = Value} pure_value (run_script calls row) x y (Err stop)
script_stopped calls name row x y stop is first w ready =
    stopped {C = Value} pure_value (tick >> calls (function main_name) row) told (state_over w x) (state_over w y) stop (main_called calls name row x y (Err stop) is first w ready)
