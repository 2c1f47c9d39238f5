use Rattle.std.proofs.Common.{◌≡◌, IfOk, List, map, ap, ◌∙◌, subst}
use Rattle.serde_json.specs.Data.{Data, array}
use Rattle.serde_json.specs.Written.{compact_text}
use Rattle.cad_json.specs.Told.{told}
use Rattle.cad_run_worlds.proofs.Sorts.{all_told_so}
use Rattle.cad_state.specs.Views.{contract_of}
use Rattle.cad_types.specs.Declarations.{Declaration}
use Rattle.cad_values.specs.Values.{pure_value}
use Rattle.cad_run_outcomes.specs.Views.{event_items}
use Rattle.cad_run_outcomes.proofs.left.told_events.Goals as goal

pub returns : goal.returns
returns c =
    let events = map pure_value c.args.events.now in
    subst (λ (all : List Data). IfOk c.events_json.result (λ text. text ≡ compact_text (array (event_items all))))
    (ap (λ (declared : List Declaration). map (told declared) events) c.in_ok-types.ensures ∙ all_told_so (map contract_of c.args.contracts.now) events) c.events_json.ensures
