use Rattle.std.proofs.Common.{◌∙◌, ap, arith}
use Rattle.cad_rows.specs.Views.{pure_row}
use Rattle.cad_state.specs.Views.{state_over}
use Rattle.cad_making.specs.Code.Calls.{with_call}
use Rattle.cad_making.proofs.Acts.{enters}
use Rattle.cad_making.proofs.calls.enter.Goals as goal

pub returns-in-Ok : goal.returns-in-Ok
returns-in-Ok c = λ w. enters c.args.within c.args.own c.args.initializes (pure_row c.args.arguments.items) (state_over w c.args.state.now) (state_over w c.push_call.new.state) _
    (omega (arith, c.if-state-ge2000.false)) (omega arith) (c.in-Ok.ensures w ∙ ap (λ f. with_call f (state_over w c.args.state.now)) c.call_of-call.ensures)
