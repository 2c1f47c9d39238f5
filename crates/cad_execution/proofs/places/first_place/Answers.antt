use Rattle.cad_declarations.specs.Views.{place_of}
use Rattle.cad_statement_leaves.proofs.PartLaws.{first_place_err, first_place_ok}
use Rattle.cad_execution.proofs.places.first_place.Goals as goal

pub returns-in-Ok : goal.returns-in-Ok
returns-in-Ok g c =
    first_place_ok (g.C.Callees.front c.args.callees.now) (g.C.Callees.calls c.args.callees.now) (place_of c.args.place.now) c.args.writes c.args.state.now c.tick.new.self c.eval_place.new.state c.eval_place.result c.in-Ok.ensures c.eval_place.ensures

pub returns-in-Err : goal.returns-in-Err
returns-in-Err g c =
    first_place_err (g.C.Callees.front c.args.callees.now) (g.C.Callees.calls c.args.callees.now) (place_of c.args.place.now) c.args.writes c.args.state.now c.in-Err.stop c.in-Err.ensures
