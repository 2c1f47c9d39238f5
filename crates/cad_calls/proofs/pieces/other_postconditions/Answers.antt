use Rattle.std.proofs.Common.{◌-◌, arith, refl, Ok, Err}
use Rattle.cad_function_sources.specs.Sources.{piece_of}
use Rattle.cad_calls.specs.Code.Parts as parts
use Rattle.cad_evaluation.specs.Bodies as spec
use Rattle.cad_calls.proofs.Keeping.{postcondition_keeps}
use Rattle.cad_calls.proofs.Lists.{back_err, back_ok, none_left_back}
use Rattle.cad_calls.proofs.pieces.other_postconditions.Goals as goal

pub loop-left-preserved : goal.loop-left-preserved
loop-left-preserved g c =
    (omega (arith, c.loop-left.invariant.0), λ z r rest. c.loop-left.invariant.1 z r (back_ok (spec.postconditions (g.C.Callees.front c.args.callees.now) (g.C.Callees.calls c.args.callees.now)) (λ y. parts.postcondition (g.C.Callees.front c.args.callees.now) (g.C.Callees.calls c.args.callees.now) y.within y.function) (λ y ys s. refl) (λ y. postcondition_keeps (g.C.Callees.front c.args.callees.now) (g.C.Callees.calls c.args.callees.now) y.within y.function (g.met.C.Callees.keeps c.args.callees.now)) piece_of c.args.others.now (c.loop-left.left - 1) c.loop-left.left c.index-others-left.result (omega (arith, c.loop-left-test.true)) (omega (arith, c.loop-left-test.true, c.loop-left.invariant.0)) c.index-others-left.is c.loop-left.state c.postcondition.new.state z r c.in-Ok.ensures rest))

pub returns-in-Err : goal.returns-in-Err
returns-in-Err g c =
    c.loop-left.invariant.1 c.postcondition.new.state (Err c.in-Err.stop) (back_err (spec.postconditions (g.C.Callees.front c.args.callees.now) (g.C.Callees.calls c.args.callees.now)) (λ y. parts.postcondition (g.C.Callees.front c.args.callees.now) (g.C.Callees.calls c.args.callees.now) y.within y.function) (λ y ys s. refl) piece_of c.args.others.now (c.loop-left.left - 1) c.loop-left.left c.index-others-left.result (omega (arith, c.loop-left-test.true)) (omega (arith, c.loop-left-test.true, c.loop-left.invariant.0)) c.index-others-left.is c.loop-left.state c.postcondition.new.state c.postcondition.new.state c.in-Err.stop c.in-Err.ensures)

pub returns : goal.returns
returns g c =
    c.loop-left.invariant.1 c.loop-left.state (Ok tt) (none_left_back (spec.postconditions (g.C.Callees.front c.args.callees.now) (g.C.Callees.calls c.args.callees.now)) piece_of c.args.others.now c.loop-left.left (omega (arith, c.loop-left-test.false)) c.loop-left.state c.loop-left.state (Ok tt) (λ w ready. refl))
