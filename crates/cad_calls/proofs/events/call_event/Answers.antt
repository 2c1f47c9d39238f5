use Rattle.cad_calls.proofs.Telling.{end_by}
use Rattle.cad_calls.proofs.events.call_event.Goals as goal

pub returns-in-Ok : goal.returns-in-Ok
returns-in-Ok g c =
    end_by (g.C.Callees.front c.args.callees.now) (g.C.Callees.calls c.args.callees.now) c.args.id.now c.args.label c.in-Ok.own c.args.state.now c.tell_quietly-result.new.state c.tell_quietly-result.result c.in-Ok.ensures c.tell_quietly-result.ensures
