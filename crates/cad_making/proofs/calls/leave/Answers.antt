use Rattle.std.proofs.Common.{arith}
use Rattle.cad_state.specs.Views.{state_over}
use Rattle.cad_making.proofs.Acts.{leaves, stays}
use Rattle.cad_making.proofs.calls.leave.Goals as goal

pub returns-in-Ok : goal.returns-in-Ok
returns-in-Ok c = λ w. leaves (state_over w c.args.state.now) (state_over w c.end_variables.new.state) (state_over w c.pop_call.new.state) c.saturating_sub-state.result
    (c.in-Ok.ensures w) (c.pop_call.ensures w) (omega (arith, c.saturating_sub-state.ensures))

pub returns-in-Err : goal.returns-in-Err
returns-in-Err c = λ w. stays (state_over w c.args.state.now) c.in-Err.stop (c.in-Err.ensures w)
