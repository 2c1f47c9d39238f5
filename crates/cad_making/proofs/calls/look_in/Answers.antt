use Rattle.std.proofs.Common.{◌∙◌, sym, ap}
use Rattle.cad_state.specs.Views.{state_over}
use Rattle.cad_world.specs.State.{ok}
use Rattle.cad_making.specs.Code.Calls.{with_call}
use Rattle.cad_making.proofs.calls.look_in.Goals as goal

pub returns-in-Ok-push_call : goal.returns-in-Ok-push_call
returns-in-Ok-push_call c = λ w. ap (ok tt) (sym (c.in-Ok-push_call.ensures w ∙ ap (λ f. with_call f (state_over w c.args.state.now)) c.in-Ok.ensures))
