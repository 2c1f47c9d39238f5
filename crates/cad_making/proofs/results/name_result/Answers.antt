use Rattle.std.proofs.Common.{◌-◌, ap, arith}
use Rattle.cad_state.specs.Views.{frame_of}
use Rattle.cad_state.proofs.Frames.{on_ok}
use Rattle.cad_making.specs.Code.Results.{named_result}
use Rattle.cad_making.proofs.Frames.{frame_changed, no_frame}
use Rattle.cad_making.proofs.results.name_result.Goals as goal

pub returns-then-n-eq0 : goal.returns-then-n-eq0
returns-then-n-eq0 c = no_frame (named_result c.args.label) c.args.state.now (omega (arith, c.len-n.ensures, c.if-n-eq0.true, c.args.state.now.calls.ok.0))

pub returns : goal.returns
returns c =
    let old = c.index_mut.result.now in
    on_ok c.name_in.result
    (λ e. frame_changed (named_result c.args.label) c.args.state.now (c.len-n.result - 1) old (record old { result = c.name_in.new.row })
    (omega (arith, c.len-n.ensures, c.if-n-eq0.false, c.args.state.now.calls.ok.0)) c.index_mut.ensures.value (ap (λ r. record (frame_of old) { result = r }) e))
    c.name_in.ensures
