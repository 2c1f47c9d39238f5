use Rattle.cad_declarations.specs.Views.{targeted}
use Rattle.cad_calls.proofs.Laws.{emit_err, emit_ok}
use Rattle.cad_calls.proofs.conditions.emit.Goals as goal

pub returns-in-Ok : goal.returns-in-Ok
returns-in-Ok g c at =
    emit_ok (g.C.Callees.front c.args.callees.now) (g.C.Callees.calls c.args.callees.now) at c.args.event.now (targeted c.args.arguments.now) c.args.state.now c.tick.new.self c.emit_event.new.state c.emit_event.result c.in-Ok.ensures c.emit_event.ensures

pub returns-in-Err : goal.returns-in-Err
returns-in-Err g c at =
    emit_err (g.C.Callees.front c.args.callees.now) (g.C.Callees.calls c.args.callees.now) at c.args.event.now (targeted c.args.arguments.now) c.args.state.now c.in-Err.stop c.in-Err.ensures
