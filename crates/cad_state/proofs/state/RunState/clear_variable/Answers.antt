use Rattle.std.proofs.Common.{◌-◌, ap, sym, ◌∙◌, arith}
use Rattle.cad_rows.specs.Places.{bare_in}
use Rattle.cad_world.specs.Rows.{clear, slot}
use Rattle.cad_state.specs.Views.{frame_of}
use Rattle.cad_state.proofs.Frames.{variables_written, no_variables, newest_variables, no_slot}
use Rattle.cad_state.proofs.state.RunState.clear_variable.Goals as goal

pub returns-then-n-eq0-clause-state : goal.returns-then-n-eq0-clause-state
returns-then-n-eq0-clause-state c = no_variables (λ r. clear c.args.x r) c.args.self.now (omega (arith, c.len-n.ensures, c.if-n-eq0.true, c.args.self.now.calls.ok.0))

pub returns-then-n-eq0-clause-tree : goal.returns-then-n-eq0-clause-tree
returns-then-n-eq0-clause-tree c = λ accounts. ap bare_in (sym (no_slot c.args.x c.args.self.now (omega (arith, c.len-n.ensures, c.if-n-eq0.true, c.args.self.now.calls.ok.0)) accounts))

pub returns-clause-state : goal.returns-clause-state
returns-clause-state c =
    let old = c.index_mut.result.now in
    variables_written (λ r. clear c.args.x r) c.args.self.now (c.len-n.result - 1) old (record old { variables = c.clear.new.row })
    (omega (arith, c.len-n.ensures, c.if-n-eq0.false, c.args.self.now.calls.ok.0)) c.index_mut.ensures.value (ap (λ r. record (frame_of old) { variables = r }) c.clear.ensures.row)

pub returns-clause-tree : goal.returns-clause-tree
returns-clause-tree c = λ accounts.
    c.clear.ensures.tree
    ∙ ap (λ r. bare_in (slot c.args.x r)) (sym (newest_variables c.args.self.now (c.len-n.result - 1) c.index_mut.result.now
    (omega (arith, c.len-n.ensures, c.if-n-eq0.false, c.args.self.now.calls.ok.0)) c.index_mut.ensures.value accounts))
