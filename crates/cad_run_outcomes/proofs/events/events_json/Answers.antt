use Rattle.std.proofs.Common.{List, ℕ, ◌++◌, false, map, ap, refl}
use Rattle.serde_json.specs.Data.{array}
use Rattle.serde_json.specs.Written.{compact_text, items_text}
use Rattle.cad_json.specs.Told.{told}
use Rattle.cad_types.specs.Views.{declarations}
use Rattle.cad_values.specs.Values.{pure_value}
use Rattle.cad_values.specs.declared.value.Value.{Value}
use Rattle.cad_run_outcomes.specs.Views.{event_items}
use Rattle.cad_run_outcomes.proofs.Listing.{drop_at, items_turn, items_end}
use Rattle.cad_run_outcomes.proofs.events.events_json.Goals as goal

pub loop-event-init : goal.loop-event-init
loop-event-init c =
    let json = told (declarations c.args.types.now) in
    ap (λ (w : List ℕ). w ++ items_text false (event_items (map json (map pure_value c.args.events.now)))) c.in_ok-text.ensures

pub loop-event-preserved : goal.loop-event-preserved
loop-event-preserved c =
    let json = told (declarations c.args.types.now) in
    items_turn (λ (x : Value). json (pure_value x)) (λ (xs : List Value). event_items (map json (map pure_value xs))) c.loop-event.later c.args.events.now c.loop-event.event-index c.loop-event.text c.push_event.new.text
    (compact_text (array (event_items (map json (map pure_value c.args.events.now))))) c.event-item.result (λ rest. refl) (drop_at c.args.events.now c.loop-event.event-index c.event-item.result c.loop-event-test.true c.event-item.is) c.loop-event.invariant c.in_ok-push_event.ensures

pub returns : goal.returns
returns c =
    let json = told (declarations c.args.types.now) in
    items_end (λ (x : Value). json (pure_value x)) (λ (xs : List Value). event_items (map json (map pure_value xs))) c.loop-event.later c.args.events.now c.loop-event.event-index c.loop-event.text c.push_str.new.self
    (compact_text (array (event_items (map json (map pure_value c.args.events.now))))) refl c.loop-event-test.false c.loop-event.invariant c.in_ok-push_str.ensures.ok
