use Rattle.cad_locations.specs.Code.Spots.{named_there}
use Rattle.cad_locations.specs.Views.{location_of}
use Rattle.cad_locations.proofs.Settled.{behind_node}
use Rattle.cad_locations.proofs.naming.name_place.Goals as goal

pub returns-in-Ok : goal.returns-in-Ok
returns-in-Ok c =
    let x = location_of c.args.location.now in
    behind_node (λ label. label) x (named_there x) c.args.state.now c.locate.new.state c.name_found.new.state c.name_found.result c.in-Ok.ensures c.name_found.ensures
