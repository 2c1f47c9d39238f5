use Rattle.cad_declarations.specs.Views.{term_of}
use Rattle.cad_calls.proofs.Laws.{message_err, message_ok}
use Rattle.cad_calls.proofs.conditions.evaluate.Goals as goal

pub returns-in-Ok : goal.returns-in-Ok
returns-in-Ok g c =
    message_ok (g.C.Callees.front c.args.callees.now) (g.C.Callees.calls c.args.callees.now) (term_of c.args.message.now) c.in-Ok.value c.args.state.now c.eval.new.state c.in-Ok.ensures

pub returns-in-Err : goal.returns-in-Err
returns-in-Err g c =
    message_err (g.C.Callees.front c.args.callees.now) (g.C.Callees.calls c.args.callees.now) (term_of c.args.message.now) c.args.state.now c.in-Err.stop c.in-Err.ensures
