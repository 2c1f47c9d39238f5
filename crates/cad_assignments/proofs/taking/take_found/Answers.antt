use Rattle.std.proofs.Common.{ap, sym, ◌∙◌, subst}
use Rattle.cad_evaluation.specs.Changing.{take, take_slot, nothing_there}
use Rattle.cad_rows.specs.Views.{pure_tree}
use Rattle.cad_state.specs.Views.{state_over, FindsAndCarriesOut}
use Rattle.cad_world.specs.State.{ok}
use Rattle.cad_state.proofs.Finding.{find_same, find_given}
use Rattle.cad_locations.specs.Code.Slots.{slot_seen}
use Rattle.cad_assignments.specs.Code.Emptied.{taken_out}
use Rattle.cad_locations.specs.Views.{location_of, tree_seen}
use Rattle.cad_locations.proofs.Settled.{place_then, no_place}
use Rattle.cad_assignments.proofs.Emptied.{taken_full}
use Rattle.cad_assignments.proofs.taking.take_found.Goals as goal

pub returns-in-Ok-Full : goal.returns-in-Ok-Full
returns-in-Ok-Full c =
    let x = location_of c.args.location.now in
    find_same pure_tree (take x) (taken_out x) c.args.state.now c.take_out.new.state c.take_out.result
    (λ accounts ready. taken_full x (tree_seen c.in-Ok-Full.field-0-0) (state_over accounts c.args.state.now) (c.in-Ok-Full.ensures accounts ready ∙ ap (λ o. ok (slot_seen o) (state_over accounts c.args.state.now)) c.in-Ok-Full.field-0-is)) c.take_out.ensures

pub returns-in-Ok-Out : goal.returns-in-Ok-Out
returns-in-Ok-Out c =
    let x = location_of c.args.location.now in
    place_then slot_seen pure_tree x (take_slot x) c.args.state.now c.args.state.now c.in-Ok-Out.field-0 c.nothing_there.result c.in-Ok-Out.ensures
    (subst (λ o. FindsAndCarriesOut pure_tree (take_slot x (slot_seen o)) c.args.state.now c.args.state.now c.nothing_there.result) (sym c.in-Ok-Out.field-0-is)
    (find_given pure_tree (nothing_there x) c.args.state.now c.nothing_there.result c.nothing_there.ensures))

pub returns-in-Err : goal.returns-in-Err
returns-in-Err c =
    let x = location_of c.args.location.now in
    no_place slot_seen pure_tree x (take_slot x) c.args.state.now c.args.state.now c.in-Err.stop c.in-Err.ensures
