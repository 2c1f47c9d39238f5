use Rattle.std.proofs.Common.{sym, ap, ◌∙◌}
use Rattle.cad_evaluation.specs.Changing.{cleared}
use Rattle.cad_outcomes.specs.Outcomes.{no_value}
use Rattle.cad_state.specs.Views.{state_over}
use Rattle.cad_state.proofs.Finding.{find_same}
use Rattle.cad_world.specs.State.{ok}
use Rattle.cad_assignments.specs.Code.Changes.{gone, old_cleared}
use Rattle.cad_locations.specs.Code.Slots.{slot_seen}
use Rattle.cad_locations.specs.Views.{location_of, tree_seen}
use Rattle.cad_assignments.proofs.Changes.{owned_refused, old_gone}
use Rattle.cad_locations.proofs.Settled.{no_place}
use Rattle.cad_assignments.proofs.clearing.clear_old_found.Goals as goal

pub returns-then-holds_resource : goal.returns-then-holds_resource
returns-then-holds_resource c = λ accounts ready.
    owned_refused (location_of c.args.location.now) (tree_seen c.in-Ok-Full.node) (state_over accounts c.args.state.now)
    (c.in-Ok-Full.ensures accounts ready ∙ ap (λ o. ok (slot_seen o) (state_over accounts c.args.state.now)) c.in-Ok-Full.field-0-is)
    (sym c.if-holds_resource.true ∙ c.holds_resource.ensures)

pub returns-else-holds_resource : goal.returns-else-holds_resource
returns-else-holds_resource c =
    let x = location_of c.args.location.now in
    find_same no_value (old_cleared x) (gone x) c.args.state.now c.drop_old.new.state c.drop_old.result
    (λ accounts ready. old_gone x (tree_seen c.in-Ok-Full.node) (state_over accounts c.args.state.now)
    (c.in-Ok-Full.ensures accounts ready ∙ ap (λ o. ok (slot_seen o) (state_over accounts c.args.state.now)) c.in-Ok-Full.field-0-is)
    (sym c.if-holds_resource.false ∙ c.holds_resource.ensures)) c.drop_old.ensures

pub returns-in-Err : goal.returns-in-Err
returns-in-Err c =
    let x = location_of c.args.location.now in
    no_place slot_seen no_value x (cleared x) c.args.state.now c.args.state.now c.in-Err.stop c.in-Err.ensures
