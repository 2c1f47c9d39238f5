use Rattle.std.proofs.Common.{IfOk, List, map, ap, ◌∙◌, subst}
use Rattle.serde_json.specs.Data.{Data}
use Rattle.cad_runs.specs.Commands.{Reply}
use Rattle.cad_state.specs.Views.{contract_of}
use Rattle.cad_types.specs.Declarations.{Declaration}
use Rattle.cad_values.specs.Values.{pure_value}
use Rattle.cad_run_worlds.specs.Replies.{told_value}
use Rattle.cad_run_worlds.specs.Views.{Tells}
use Rattle.cad_run_worlds.proofs.Sorts.{value_so}
use Rattle.cad_replies.proofs.script_running.reply_to_value.Goals as goal

pub returns-in-Ok : goal.returns-in-Ok
returns-in-Ok c =
    let x = pure_value c.args.value in
    subst (λ (reply : Reply Data). IfOk c.reply_by.result (λ it. Tells it reply))
    (ap (λ (declared : List Declaration). told_value declared x) c.in-Ok.ensures ∙ value_so (map contract_of c.args.contracts.now) x) c.reply_by.ensures
