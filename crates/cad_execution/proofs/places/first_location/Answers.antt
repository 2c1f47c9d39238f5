use Rattle.cad_declarations.specs.Views.{place_of}
use Rattle.cad_statement_leaves.proofs.PartLaws.{first_location_err, first_location_ok}
use Rattle.cad_execution.proofs.places.first_location.Goals as goal

pub returns-in-Ok : goal.returns-in-Ok
returns-in-Ok g c =
    first_location_ok (g.C.Callees.front c.args.callees.now) (g.C.Callees.calls c.args.callees.now) (place_of c.args.place.now) c.in-Ok.found c.args.state.now c.first_place.new.state c.location.result c.in-Ok.ensures c.location.ensures

pub returns-in-Err : goal.returns-in-Err
returns-in-Err g c =
    first_location_err (g.C.Callees.front c.args.callees.now) (g.C.Callees.calls c.args.callees.now) (place_of c.args.place.now) c.args.state.now c.in-Err.stop c.in-Err.ensures
