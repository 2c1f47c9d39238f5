use Rattle.std.proofs.Common.{◌-◌, ap, arith}
use Rattle.cad_world.specs.Rows.{stop}
use Rattle.cad_rows.specs.Views.{pure_tree}
use Rattle.cad_state.specs.Views.{state_over, frame_of}
use Rattle.cad_making.proofs.Acts.{comes_back, no_result_back, no_call_back}
use Rattle.cad_making.proofs.Frames.{frame_changed, newest_frame, no_newest}
use Rattle.cad_making.proofs.results.take_result.Goals as goal

pub returns-then-n-eq0 : goal.returns-then-n-eq0
returns-then-n-eq0 c = λ w. no_call_back (state_over w c.args.state.now) (no_newest c.args.state.now (omega (arith, c.len-n.ensures, c.if-n-eq0.true, c.args.state.now.calls.ok.0)) w)

pub returns-in-Some : goal.returns-in-Some
returns-in-Some c =
    let old = c.index_mut.result.now in
    λ w. comes_back (state_over w c.args.state.now) _ (frame_of old) (pure_tree c.in-Some.tree)
    (newest_frame c.args.state.now (c.len-n.result - 1) old (omega (arith, c.len-n.ensures, c.if-n-eq0.false, c.args.state.now.calls.ok.0)) c.index_mut.ensures.value w)
    c.in-Some.ensures.tree
    (frame_changed (λ f. record f { result = stop }) c.args.state.now (c.len-n.result - 1) old (record old { result = c.take_alone.new.row })
    (omega (arith, c.len-n.ensures, c.if-n-eq0.false, c.args.state.now.calls.ok.0)) c.index_mut.ensures.value (ap (λ r. record (frame_of old) { result = r }) c.take_alone.ensures.row) w)

pub returns-in-None : goal.returns-in-None
returns-in-None c =
    let old = c.index_mut.result.now in
    λ w. no_result_back (state_over w c.args.state.now) (frame_of old)
    (newest_frame c.args.state.now (c.len-n.result - 1) old (omega (arith, c.len-n.ensures, c.if-n-eq0.false, c.args.state.now.calls.ok.0)) c.index_mut.ensures.value w)
    c.in-None.ensures.tree
