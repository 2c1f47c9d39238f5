use Rattle.std.proofs.Common.{◌+◌, arith, refl, Ok, Err}
use Rattle.cad_declarations.specs.Views.{condition_of}
use Rattle.cad_label_runs.proofs.Bodies.{tested_keeps}
use Rattle.cad_evaluation.specs.Bodies as spec
use Rattle.cad_calls.proofs.Lists.{none_left, turn_err, turn_ok}
use Rattle.cad_calls.proofs.conditions.test_conditions.Goals as goal

pub returns-in-Err : goal.returns-in-Err
returns-in-Err g c =
    c.loop-one.invariant c.condition.new.state (Err c.in-Err.stop) (turn_err (spec.all_tested (g.C.Callees.front c.args.callees.now) (g.C.Callees.calls c.args.callees.now)) (spec.tested (g.C.Callees.front c.args.callees.now) (g.C.Callees.calls c.args.callees.now)) (λ y ys s. refl) condition_of c.args.all.now c.loop-one.one-index c.one-item.result c.loop-one-test.true c.one-item.is c.loop-one.state c.condition.new.state c.condition.new.state c.in-Err.stop c.in-Err.ensures)

pub loop-one-preserved : goal.loop-one-preserved
loop-one-preserved g c z r rest =
    c.loop-one.invariant z r (turn_ok (spec.all_tested (g.C.Callees.front c.args.callees.now) (g.C.Callees.calls c.args.callees.now)) (spec.tested (g.C.Callees.front c.args.callees.now) (g.C.Callees.calls c.args.callees.now)) (λ y ys s. refl) (λ y. tested_keeps (g.C.Callees.front c.args.callees.now) (g.C.Callees.calls c.args.callees.now) y (g.met.C.Callees.keeps c.args.callees.now)) condition_of c.args.all.now c.loop-one.one-index (c.loop-one.one-index + 1) c.one-item.result (omega arith) c.loop-one-test.true c.one-item.is c.loop-one.state c.condition.new.state z r c.in-Ok.ensures rest)

pub returns : goal.returns
returns g c =
    c.loop-one.invariant c.loop-one.state (Ok tt) (none_left (spec.all_tested (g.C.Callees.front c.args.callees.now) (g.C.Callees.calls c.args.callees.now)) condition_of c.args.all.now c.loop-one.one-index (omega (arith, c.loop-one-test.false)) c.loop-one.state c.loop-one.state (Ok tt) (λ w ready. refl))
