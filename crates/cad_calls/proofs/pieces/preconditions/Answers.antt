use Rattle.std.proofs.Common.{◌+◌, arith, refl, Err}
use Rattle.std.proofs.Common.{◌++◌}
use Rattle.cad_calls.specs.Pieces.{maybe_piece}
use Rattle.cad_function_sources.specs.Sources.{piece_of}
use Rattle.cad_calls.specs.Code.Parts as parts
use Rattle.cad_calls.proofs.Keeping.{precondition_keeps}
use Rattle.cad_evaluation.specs.Bodies as spec
use Rattle.cad_calls.proofs.Lists.{none_left, turn_err, turn_ok}
use Rattle.cad_calls.proofs.pieces.preconditions.Goals as goal

pub returns-in-Err : goal.returns-in-Err
returns-in-Err g c =
    c.loop-piece.invariant c.precondition.new.state (Err c.in-Err.stop) (turn_err (λ ys. spec.preconditions (g.C.Callees.front c.args.callees.now) (g.C.Callees.calls c.args.callees.now) (ys ++ spec.listed (maybe_piece c.args.own))) (λ y. parts.precondition (g.C.Callees.front c.args.callees.now) (g.C.Callees.calls c.args.callees.now) y.within y.function) (λ y ys s. refl) piece_of c.args.others.now c.loop-piece.piece-index c.piece-item.result c.loop-piece-test.true c.piece-item.is c.loop-piece.state c.precondition.new.state c.precondition.new.state c.in-Err.stop c.in-Err.ensures)

pub loop-piece-preserved : goal.loop-piece-preserved
loop-piece-preserved g c z r rest =
    c.loop-piece.invariant z r (turn_ok (λ ys. spec.preconditions (g.C.Callees.front c.args.callees.now) (g.C.Callees.calls c.args.callees.now) (ys ++ spec.listed (maybe_piece c.args.own))) (λ y. parts.precondition (g.C.Callees.front c.args.callees.now) (g.C.Callees.calls c.args.callees.now) y.within y.function) (λ y ys s. refl) (λ y. precondition_keeps (g.C.Callees.front c.args.callees.now) (g.C.Callees.calls c.args.callees.now) y.within y.function (g.met.C.Callees.keeps c.args.callees.now)) piece_of c.args.others.now c.loop-piece.piece-index (c.loop-piece.piece-index + 1) c.piece-item.result (omega arith) c.loop-piece-test.true c.piece-item.is c.loop-piece.state c.precondition.new.state z r c.in-Ok.ensures rest)

pub returns : goal.returns
returns g c =
    c.loop-piece.invariant c.own_precondition.new.state c.own_precondition.result (none_left (λ ys. spec.preconditions (g.C.Callees.front c.args.callees.now) (g.C.Callees.calls c.args.callees.now) (ys ++ spec.listed (maybe_piece c.args.own))) piece_of c.args.others.now c.loop-piece.piece-index (omega (arith, c.loop-piece-test.false)) c.loop-piece.state c.own_precondition.new.state c.own_precondition.result c.own_precondition.ensures)
