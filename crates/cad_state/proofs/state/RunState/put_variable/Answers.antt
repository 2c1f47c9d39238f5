use Rattle.std.proofs.Common.{◌-◌, ap, arith}
use Rattle.cad_rows.specs.Views.{pure_tree}
use Rattle.cad_world.specs.Rows.{put}
use Rattle.cad_state.specs.Views.{frame_of}
use Rattle.cad_state.proofs.Frames.{variables_written, no_variables, on_ok}
use Rattle.cad_state.proofs.state.RunState.put_variable.Goals as goal

pub returns-then-n-eq0 : goal.returns-then-n-eq0
returns-then-n-eq0 c = no_variables (λ r. put c.args.x (pure_tree c.args.tree) r) c.args.self.now (omega (arith, c.len-n.ensures, c.if-n-eq0.true, c.args.self.now.calls.ok.0))

pub returns : goal.returns
returns c =
    let old = c.index_mut.result.now in
    on_ok c.put.result
    (λ e. variables_written (λ r. put c.args.x (pure_tree c.args.tree) r) c.args.self.now (c.len-n.result - 1) old (record old { variables = c.put.new.row })
    (omega (arith, c.len-n.ensures, c.if-n-eq0.false, c.args.self.now.calls.ok.0)) c.index_mut.ensures.value (ap (λ r. record (frame_of old) { variables = r }) e))
    c.put.ensures
