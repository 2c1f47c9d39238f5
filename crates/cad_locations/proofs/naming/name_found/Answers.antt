use Rattle.std.proofs.Common.{subst}
use Rattle.cad_world.specs.Locations.{name, part}
use Rattle.cad_state.specs.Views.{state_over}
use Rattle.cad_state.proofs.Finding.{find_same}
use Rattle.cad_locations.specs.Code.Spots.{named_there}
use Rattle.cad_locations.specs.Views.{location_of}
use Rattle.cad_locations.proofs.Spots.{MayBePlace, named_place}
use Rattle.cad_locations.proofs.naming.name_found.Goals as goal

pub returns-in-Ok-Some : goal.returns-in-Ok-Some
returns-in-Ok-Some c =
    let x = location_of c.args.location.now in
    find_same (λ label. label) (named_there x) (name (part c.in-Ok-Some.label c.in-Ok-Some.i)) c.args.state.now c.name_in.new.state c.name_in.result
    (λ accounts ready. named_place x c.in-Ok-Some.label c.in-Ok-Some.i (state_over accounts c.args.state.now) (subst (MayBePlace x c.args.state.now) c.in-Ok-Some.field-0-is c.in-Ok-Some.ensures accounts ready)) c.name_in.ensures
