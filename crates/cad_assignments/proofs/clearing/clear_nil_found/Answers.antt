use Rattle.std.proofs.Common.{sym, ap, ◌∙◌, subst}
use Rattle.cad_evaluation.specs.Changing.{empty_if_nil}
use Rattle.cad_outcomes.specs.Outcomes.{no_value}
use Rattle.cad_state.specs.Views.{state_over, FindsAndCarriesOut}
use Rattle.cad_state.proofs.Finding.{find_same, find_given}
use Rattle.cad_world.specs.State.{ok}
use Rattle.cad_assignments.specs.Code.Changes.{gone, nil_cleared, nothing_cleared}
use Rattle.cad_locations.specs.Code.Slots.{slot_seen}
use Rattle.cad_locations.specs.Views.{location_of, tree_seen}
use Rattle.cad_assignments.proofs.Changes.{nil_goes, nil_stops}
use Rattle.cad_locations.proofs.Settled.{place_then, no_place}
use Rattle.cad_assignments.proofs.clearing.clear_nil_found.Goals as goal

pub returns-in-Ok : goal.returns-in-Ok
returns-in-Ok c =
    let x = location_of c.args.location.now in
    find_same no_value (nil_cleared x) (gone x) c.args.state.now c.drop_old.new.state c.drop_old.result
    (λ accounts ready. nil_goes x (tree_seen c.in-Ok-Full.node) (state_over accounts c.args.state.now)
    (c.in-Ok-Full.ensures accounts ready ∙ ap (λ o. ok (slot_seen o) (state_over accounts c.args.state.now)) c.in-Ok-Full.field-0-is)
    (c.in-Ok.ensures (state_over accounts c.args.state.now))) c.drop_old.ensures

pub returns-in-Err-expect_nil_read : goal.returns-in-Err-expect_nil_read
returns-in-Err-expect_nil_read c = λ accounts ready.
    nil_stops (location_of c.args.location.now) (tree_seen c.in-Ok-Full.node) (state_over accounts c.args.state.now) c.in-Err-expect_nil_read.stop
    (c.in-Ok-Full.ensures accounts ready ∙ ap (λ o. ok (slot_seen o) (state_over accounts c.args.state.now)) c.in-Ok-Full.field-0-is)
    (c.in-Err-expect_nil_read.ensures (state_over accounts c.args.state.now))

pub returns-in-Ok-Out : goal.returns-in-Ok-Out
returns-in-Ok-Out c =
    let x = location_of c.args.location.now in
    place_then slot_seen no_value x (empty_if_nil x) c.args.state.now c.args.state.now c.in-Ok-Out.field-0 c.nothing_to_clear.result c.in-Ok-Out.ensures
    (subst (λ o. FindsAndCarriesOut no_value (empty_if_nil x (slot_seen o)) c.args.state.now c.args.state.now c.nothing_to_clear.result) (sym c.in-Ok-Out.field-0-is)
    (find_given no_value (nothing_cleared x) c.args.state.now c.nothing_to_clear.result c.nothing_to_clear.ensures))

pub returns-in-Err : goal.returns-in-Err
returns-in-Err c =
    let x = location_of c.args.location.now in
    no_place slot_seen no_value x (empty_if_nil x) c.args.state.now c.args.state.now c.in-Err.stop c.in-Err.ensures
