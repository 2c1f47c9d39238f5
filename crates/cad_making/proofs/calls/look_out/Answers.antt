use Rattle.cad_state.specs.Views.{state_over}
use Rattle.cad_making.proofs.Acts.{looks_out, looks_still}
use Rattle.cad_making.proofs.calls.look_out.Goals as goal

pub returns-in-Ok : goal.returns-in-Ok
returns-in-Ok c = λ w. looks_out (state_over w c.args.state.now) (state_over w c.end_variables.new.state) (state_over w c.pop_call.new.state) (c.in-Ok.ensures w) (c.pop_call.ensures w)

pub returns-in-Err : goal.returns-in-Err
returns-in-Err c = λ w. looks_still (state_over w c.args.state.now) c.in-Err.stop (c.in-Err.ensures w)
