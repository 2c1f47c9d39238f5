use Rattle.std.proofs.Common.{◌≡◌, ◌++◌, map, drop}
use Rattle.serde_json.specs.Data.{array}
use Rattle.serde_json.specs.Written.{compact_text, items_text}
use Rattle.cad_json.specs.Told.{told}
use Rattle.cad_types.specs.Views.{declarations}
use Rattle.cad_values.specs.Values.{pure_value}
use Rattle.cad_run_outcomes.specs.Views.{event_items}
use Rattle.cad_run_outcomes.proofs.events.events_json.Given as goal

-- the events so far and those to come
abbrev pub invariant-loop-event : goal.invariant-loop-event
invariant-loop-event l =
    let json = told (declarations l.types) in
    l.text ++ items_text l.later (event_items (map json (map pure_value (drop l.event-index l.events)))) ≡ compact_text (array (event_items (map json (map pure_value l.events))))
