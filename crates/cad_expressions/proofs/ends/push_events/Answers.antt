use Rattle.std.proofs.Common.{rules, arith, Ok, Err}
use Rattle.cad_expression_leaves.specs.Views.{trees_of}
use Rattle.cad_expressions.proofs.Destroying.{events_turn, events_stop, events_last}
use Rattle.cad_expressions.proofs.ends.push_events.Goals as goal

pub loop-of-preserved : goal.loop-of-preserved
loop-of-preserved g c = record {
  counted = omega (arith, c.loop-of.invariant.counted);
  comes = λ z all r h. c.loop-of.invariant.comes z all r (events_turn (g.E.Evaluator.calls c.args.evaluator.now) (g.met.E.Evaluator.keeps c.args.evaluator.now) c.args.types.now c.loop-of.of-index c.of-item.result (search rules) c.of-item.is c.loop-of.label (trees_of c.loop-of.events) (trees_of c.push_event.new.events) c.in-Ok.event c.loop-of.state c.make_event.new.state z all r c.in-Ok.ensures c.in-Ok-push_event.ensures h);
}

pub returns-in-Err : goal.returns-in-Err
returns-in-Err g c = c.loop-of.invariant.comes c.make_event.new.state (trees_of c.loop-of.events) (Err c.in-Err.stop) (events_stop (g.E.Evaluator.calls c.args.evaluator.now) (g.met.E.Evaluator.keeps c.args.evaluator.now) c.args.types.now c.loop-of.of-index c.of-item.result (search rules) c.of-item.is c.loop-of.label (trees_of c.loop-of.events) c.loop-of.state c.make_event.new.state c.make_event.new.state (trees_of c.loop-of.events) c.in-Err.stop c.in-Err.ensures)

pub returns : goal.returns
returns g c = c.loop-of.invariant.comes c.loop-of.state (trees_of c.loop-of.events) (Ok tt) (events_last (g.E.Evaluator.calls c.args.evaluator.now) (g.met.E.Evaluator.keeps c.args.evaluator.now) c.args.types.now c.loop-of.of-index (omega arith) c.loop-of.label (trees_of c.loop-of.events) c.loop-of.state)
