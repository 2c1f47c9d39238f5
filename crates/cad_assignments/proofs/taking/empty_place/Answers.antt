use Rattle.std.proofs.Common.{option_map, subst}
use Rattle.cad_rows.specs.Views.{pure_tree}
use Rattle.cad_state.specs.Views.{state_over}
use Rattle.cad_state.proofs.Finding.{find_same}
use Rattle.cad_assignments.specs.Code.Emptied.{emptied}
use Rattle.cad_locations.specs.Views.{location_of}
use Rattle.cad_locations.proofs.Spots.{MayBePlace}
use Rattle.cad_assignments.proofs.Emptied.{cleared_place, emptied_place}
use Rattle.cad_assignments.proofs.taking.empty_place.Goals as goal

pub returns-in-Ok-Some : goal.returns-in-Ok-Some
returns-in-Ok-Some c =
    find_same (λ o. option_map pure_tree o) (emptied (location_of c.args.location.now)) (cleared_place c.in-Ok-Some.label c.in-Ok-Some.i) c.args.state.now c.clear_in.new.state c.clear_in.result
    (λ accounts ready. emptied_place (location_of c.args.location.now) c.in-Ok-Some.label c.in-Ok-Some.i (state_over accounts c.args.state.now) (subst (MayBePlace (location_of c.args.location.now) c.args.state.now) c.in-Ok-Some.field-0-is c.in-Ok-Some.ensures accounts ready)) c.clear_in.ensures
