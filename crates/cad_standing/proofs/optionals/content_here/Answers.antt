use Rattle.cad_locations.specs.Views.{location_of}
use Rattle.cad_standing.specs.Views.{standing_of}
use Rattle.cad_standing.proofs.NilLaws.{content_follows, content_stops}
use Rattle.cad_standing.proofs.optionals.content_here.Goals as goal

pub returns-in-Ok : goal.returns-in-Ok
returns-in-Ok c =
    content_follows standing_of c.args.forces c.args.rights (location_of c.args.location) c.args.inside c.in-Ok.is_nil c.args.state.now c.nil_there.new.state c.content_by.result c.in-Ok.ensures c.content_by.ensures

pub returns-in-Err : goal.returns-in-Err
returns-in-Err c = content_stops standing_of c.args.forces c.args.rights (location_of c.args.location) c.args.inside c.args.state.now c.nil_there.new.state c.in-Err.stop c.in-Err.ensures
