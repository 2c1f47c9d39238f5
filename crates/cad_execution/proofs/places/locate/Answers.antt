use Rattle.cad_declarations.specs.Views.{place_of}
use Rattle.cad_statement_leaves.proofs.PartLaws.{locate_err, locate_ok}
use Rattle.cad_execution.proofs.places.locate.Goals as goal

pub returns-in-Ok : goal.returns-in-Ok
returns-in-Ok g c =
    locate_ok (g.C.Callees.front c.args.callees.now) (g.C.Callees.calls c.args.callees.now) (place_of c.args.place.now) c.in-Ok.found c.args.state.now c.eval_place.new.state c.location.result c.in-Ok.ensures c.location.ensures

pub returns-in-Err : goal.returns-in-Err
returns-in-Err g c =
    locate_err (g.C.Callees.front c.args.callees.now) (g.C.Callees.calls c.args.callees.now) (place_of c.args.place.now) c.args.state.now c.in-Err.stop c.in-Err.ensures
