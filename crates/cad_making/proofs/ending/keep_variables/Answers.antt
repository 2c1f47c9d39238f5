use Rattle.std.proofs.Common.{◌-◌, ap, arith}
use Rattle.cad_world.specs.Rows.{front}
use Rattle.cad_state.specs.Views.{frame_of}
use Rattle.cad_making.proofs.Frames.{frame_changed, no_frame}
use Rattle.cad_making.proofs.ending.keep_variables.Goals as goal

pub returns-then-count-eq0 : goal.returns-then-count-eq0
returns-then-count-eq0 c = no_frame (λ f. record f { variables = front c.args.n f.variables }) c.args.state.now (omega (arith, c.len-count.ensures, c.if-count-eq0.true, c.args.state.now.calls.ok.0))

pub returns : goal.returns
returns c =
    let old = c.index_mut.result.now in
    frame_changed (λ f. record f { variables = front c.args.n f.variables }) c.args.state.now (c.len-count.result - 1) old (record old { variables = c.keep_front.new.row })
    (omega (arith, c.len-count.ensures, c.if-count-eq0.false, c.args.state.now.calls.ok.0)) c.index_mut.ensures.value (ap (λ r. record (frame_of old) { variables = r }) c.keep_front.ensures)
