use Rattle.std.proofs.Common.{◌≡◌, List, map, subst}
use Rattle.serde_json.specs.Data.{array}
use Rattle.serde_json.specs.Written.{compact_text}
use Rattle.cad_json.specs.Told.{told}
use Rattle.cad_state.specs.Views.{contract_of}
use Rattle.cad_state.specs.declared.state.Contract.{Contract}
use Rattle.cad_values.specs.Shapes.{declarations}
use Rattle.cad_values.specs.Values.{pure_value}
use Rattle.cad_values.specs.declared.value.Value.{Value}
use Rattle.cad_world.specs.Shapes.{shapes}
use Rattle.cad_run_outcomes.specs.Views.{event_items}
use Rattle.cad_run_outcomes.proofs.left.outcome_of_state.Goals as goal

pub outcome_of_told-requires : goal.outcome_of_told-requires
outcome_of_told-requires c =
    subst (λ (all : List Value). c.in-Ok.events ≡ compact_text (array (event_items (map (told (declarations (shapes (map contract_of c.args.state.contracts.items)))) (map pure_value all))))) c.as_slice-2.ensures.value
    (subst (λ (cs : List Contract). c.in-Ok.events ≡ compact_text (array (event_items (map (told (declarations (shapes (map contract_of cs)))) (map pure_value c.as_slice-2.result.now))))) c.as_slice.ensures.value c.in-Ok.ensures)
