use Rattle.std.proofs.Common.{◌+◌, arith, refl, Ok, Err}
use Rattle.cad_declarations.specs.Views.{before_of}
use Rattle.cad_calls.specs.Code.Parts as parts
use Rattle.cad_calls.proofs.Keeping.{kept_keeps}
use Rattle.cad_evaluation.specs.Bodies as spec
use Rattle.cad_calls.proofs.Lists.{none_left, turn_err, turn_ok}
use Rattle.cad_calls.proofs.conditions.keep_values.Goals as goal

pub returns-in-Err : goal.returns-in-Err
returns-in-Err g c =
    c.loop-before.invariant c.keep_value.new.state (Err c.in-Err.stop) (turn_err (spec.values_before (g.C.Callees.front c.args.callees.now) (g.C.Callees.calls c.args.callees.now)) (λ y. parts.value_kept (g.C.Callees.front c.args.callees.now) (g.C.Callees.calls c.args.callees.now) y.value) (λ y ys s. refl) before_of c.args.all.now c.loop-before.before-index c.before-item.result c.loop-before-test.true c.before-item.is c.loop-before.state c.keep_value.new.state c.keep_value.new.state c.in-Err.stop c.in-Err.ensures)

pub loop-before-preserved : goal.loop-before-preserved
loop-before-preserved g c z r rest =
    c.loop-before.invariant z r (turn_ok (spec.values_before (g.C.Callees.front c.args.callees.now) (g.C.Callees.calls c.args.callees.now)) (λ y. parts.value_kept (g.C.Callees.front c.args.callees.now) (g.C.Callees.calls c.args.callees.now) y.value) (λ y ys s. refl) (λ y. kept_keeps (g.C.Callees.front c.args.callees.now) (g.C.Callees.calls c.args.callees.now) y.value (g.met.C.Callees.keeps c.args.callees.now)) before_of c.args.all.now c.loop-before.before-index (c.loop-before.before-index + 1) c.before-item.result (omega arith) c.loop-before-test.true c.before-item.is c.loop-before.state c.keep_value.new.state z r c.in-Ok.ensures rest)

pub returns : goal.returns
returns g c =
    c.loop-before.invariant c.loop-before.state (Ok tt) (none_left (spec.values_before (g.C.Callees.front c.args.callees.now) (g.C.Callees.calls c.args.callees.now)) before_of c.args.all.now c.loop-before.before-index (omega (arith, c.loop-before-test.false)) c.loop-before.state c.loop-before.state (Ok tt) (λ w ready. refl))
