use Rattle.std.proofs.Common.{◌-◌, sym, ap, arith}
use Rattle.cad_world.specs.Rows.{add_last}
use Rattle.cad_world.specs.State.{ok}
use Rattle.cad_rows.specs.Views.{pure_tree}
use Rattle.cad_state.specs.Views.{frame_of}
use Rattle.cad_making.proofs.Frames.{frame_changed, no_frame}
use Rattle.cad_making.proofs.before.keep_before.Goals as goal

pub returns-then-n-eq0 : goal.returns-then-n-eq0
returns-then-n-eq0 c = λ w. ap (ok tt) (sym (no_frame (λ f. record f { before = add_last (pure_tree c.args.tree) f.before }) c.args.state.now (omega (arith, c.len-n.ensures, c.if-n-eq0.true, c.args.state.now.calls.ok.0)) w))

pub returns-in-Ok : goal.returns-in-Ok
returns-in-Ok c =
    let old = c.index_mut.result.now in
    λ w. ap (ok tt) (sym (frame_changed (λ f. record f { before = add_last (pure_tree c.args.tree) f.before }) c.args.state.now (c.len-n.result - 1) old (record old { before = c.add_last.new.row })
    (omega (arith, c.len-n.ensures, c.if-n-eq0.false, c.args.state.now.calls.ok.0)) c.index_mut.ensures.value (ap (λ r. record (frame_of old) { before = r }) c.in-Ok.ensures) w))
