use Rattle.cad_declarations.specs.Views.{destroyed_of}
use Rattle.cad_calls.proofs.Telling.{inside_err, inside_ok}
use Rattle.cad_calls.proofs.events.make_inside.Goals as goal

pub returns-in-Ok : goal.returns-in-Ok
returns-in-Ok g c =
    inside_ok (g.C.Callees.front c.args.callees.now) (g.C.Callees.calls c.args.callees.now) c.args.id.now c.args.label (destroyed_of c.args.destroyed.now) c.in-Ok.row c.args.state.now c.evaluate_defaults.new.state c.evaluate_defaults.new.state c.event.result c.in-Ok.ensures c.event.ensures

pub returns-in-Err : goal.returns-in-Err
returns-in-Err g c =
    inside_err (g.C.Callees.front c.args.callees.now) (g.C.Callees.calls c.args.callees.now) c.args.id.now c.args.label (destroyed_of c.args.destroyed.now) c.args.state.now c.in-Err.stop c.in-Err.ensures
