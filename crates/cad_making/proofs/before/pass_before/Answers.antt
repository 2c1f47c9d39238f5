use Rattle.std.proofs.Common.{◌-◌, sym, ap, arith}
use Rattle.cad_world.specs.Rows.{back}
use Rattle.cad_world.specs.State.{ok}
use Rattle.cad_state.specs.Views.{frame_of}
use Rattle.cad_making.proofs.Frames.{frame_changed, no_frame}
use Rattle.cad_making.proofs.before.pass_before.Goals as goal

pub returns-then-count-eq0 : goal.returns-then-count-eq0
returns-then-count-eq0 c = λ w. ap (ok tt) (sym (no_frame (λ f. record f { before = back c.args.n f.before }) c.args.state.now (omega (arith, c.len-count.ensures, c.if-count-eq0.true, c.args.state.now.calls.ok.0)) w))

pub returns : goal.returns
returns c =
    let old = c.index_mut.result.now in
    λ w. ap (ok tt) (sym (frame_changed (λ f. record f { before = back c.args.n f.before }) c.args.state.now (c.len-count.result - 1) old (record old { before = c.keep_back.new.row })
    (omega (arith, c.len-count.ensures, c.if-count-eq0.false, c.args.state.now.calls.ok.0)) c.index_mut.ensures.value (ap (λ r. record (frame_of old) { before = r }) c.keep_back.ensures) w))
