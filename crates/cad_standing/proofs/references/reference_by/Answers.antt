use Rattle.cad_locations.specs.Views.{location_of}
use Rattle.cad_rows.specs.Views.{pure_tree}
use Rattle.cad_standing.proofs.ReferenceLaws.{refers_follows, refers_stops}
use Rattle.cad_standing.proofs.references.reference_by.Goals as goal

pub returns-in-Ok : goal.returns-in-Ok
returns-in-Ok c =
    refers_follows pure_tree c.args.authorization.now (location_of c.args.location.now) c.args.wraps c.args.sees c.in-Some.n c.in-Ok.reference
    c.args.state.now c.refer.new.state c.wrapped_if.result c.in-Some.is c.in-Ok.ensures c.wrapped_if.ensures

pub returns-in-Err : goal.returns-in-Err
returns-in-Err c =
    refers_stops pure_tree c.args.authorization.now (location_of c.args.location.now) c.args.wraps c.args.sees c.in-Some.n
    c.args.state.now c.refer.new.state c.in-Err.stop c.in-Some.is c.in-Err.ensures
