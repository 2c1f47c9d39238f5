use Rattle.std.proofs.Common.{◌-◌, sym, ap, arith}
use Rattle.cad_world.specs.State.{ok}
use Rattle.cad_making.specs.Code.Calls.{in_type}
use Rattle.cad_making.proofs.Frames.{frame_changed, no_frame}
use Rattle.cad_making.proofs.calls.move_to.Goals as goal

pub returns-then-n-eq0 : goal.returns-then-n-eq0
returns-then-n-eq0 c = λ w. ap (ok tt) (sym (no_frame (in_type c.args.within) c.args.state.now (omega (arith, c.len-n.ensures, c.if-n-eq0.true, c.args.state.now.calls.ok.0)) w))

pub returns : goal.returns
returns c = λ w. ap (ok tt) (sym (frame_changed (in_type c.args.within) c.args.state.now (c.len-n.result - 1) c.index_mut.result.now c.set_within.new.call
    (omega (arith, c.len-n.ensures, c.if-n-eq0.false, c.args.state.now.calls.ok.0)) c.index_mut.ensures.value c.set_within.ensures w))
