use Rattle.std.proofs.Common.{List, Ok, Err, map, refl, ap, subst}
use Rattle.cad_evaluation.specs.Ending.{events_of}
use Rattle.cad_rows.specs.Views.{pure_tree}
use Rattle.cad_state.specs.Views.{FindsAndCarriesOut}
use Rattle.cad_syntax.specs.declared.type_id.TypeId.{TypeId}
use Rattle.cad_expression_leaves.specs.Views.{trees_of}
use Rattle.cad_expressions.proofs.Destroying.{begun_events, stopped_events}
use Rattle.cad_expressions.proofs.ends.make_events.Goals as goal

pub returns-in-Ok : goal.returns-in-Ok
returns-in-Ok g c = subst (λ (ids : List TypeId). FindsAndCarriesOut trees_of (events_of (g.E.Evaluator.calls c.args.evaluator.now) c.args.dying.now.first_label ids) c.args.state.now c.push_events.new.state (Ok c.push_events.new.events)) c.as_slice.ensures
    (begun_events (events_of (g.E.Evaluator.calls c.args.evaluator.now) c.args.dying.now.first_label c.as_slice.result.now) trees_of c.push_events.new.events (trees_of c.push_events.new.events) (trees_of c.new-events.result) c.args.state.now c.push_events.new.state refl (ap (map pure_tree) c.new-events.ensures.items) c.in-Ok.ensures)

pub returns-in-Err : goal.returns-in-Err
returns-in-Err g c = subst (λ (ids : List TypeId). FindsAndCarriesOut trees_of (events_of (g.E.Evaluator.calls c.args.evaluator.now) c.args.dying.now.first_label ids) c.args.state.now c.push_events.new.state (Err c.in-Err.stop)) c.as_slice.ensures
    (stopped_events (events_of (g.E.Evaluator.calls c.args.evaluator.now) c.args.dying.now.first_label c.as_slice.result.now) trees_of (trees_of c.push_events.new.events) (trees_of c.new-events.result) c.in-Err.stop c.args.state.now c.push_events.new.state (ap (map pure_tree) c.new-events.ensures.items) c.in-Err.ensures)
