use Rattle.cad_declarations.specs.Views.{destroyed_of}
use Rattle.cad_calls.proofs.Telling.{made_err, made_ok}
use Rattle.cad_calls.proofs.events.make_event.Goals as goal

pub returns-in-Ok : goal.returns-in-Ok
returns-in-Ok g c =
    made_ok (g.C.Callees.front c.args.callees.now) (g.C.Callees.calls c.args.callees.now) c.args.id.now c.args.label (destroyed_of c.args.destroyed.now) c.in-Ok.value c.args.state.now c.make_inside.new.state c.look_out_with.new.state c.look_out_with.result c.in-Ok.ensures c.look_out_with.ensures

pub returns-in-Err : goal.returns-in-Err
returns-in-Err g c =
    made_err (g.C.Callees.front c.args.callees.now) (g.C.Callees.calls c.args.callees.now) c.args.id.now c.args.label (destroyed_of c.args.destroyed.now) c.args.state.now c.in-Err.stop c.in-Err.ensures
