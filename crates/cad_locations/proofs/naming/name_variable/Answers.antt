use Rattle.std.proofs.Common.{◌≡◌, ◌+◌, ◌-◌, suc, ap, sym, arith}
use Rattle.cad_state.specs.Views.{frame_of}
use Rattle.cad_state.proofs.Frames.{variables_written}
use Rattle.cad_world.specs.Rows.{named}
use Rattle.cad_world.specs.State.{ok}
use Rattle.cad_locations.proofs.naming.name_variable.Goals as goal

pub returns-in-Ok : goal.returns-in-Ok
returns-in-Ok c = λ accounts.
    let s = c.args.state.now in
    let old = c.index_mut.result.now in
    let more : suc s.next_label ≡ s.next_label + 1 = omega arith in
    let rows =
    variables_written (named c.args.x s.next_label) s (c.len-n.result - 1) old (record old { variables = c.name_in.new.row })
    (omega (arith, c.len-n.ensures, c.if-n-eq0.false, s.calls.ok.0)) c.index_mut.ensures.value (ap (λ r. record (frame_of old) { variables = r }) c.in-Ok.ensures) accounts in
    ap (ok s.next_label) (λ j. record (sym rows j) { next_label = more j })
