use Rattle.std.proofs.Common.{ap, ◌∙◌}
use Rattle.cad_evaluation.specs.Changing.{fill}
use Rattle.cad_num.specs.Numbers.{value_of}
use Rattle.cad_outcomes.specs.Outcomes.{no_value}
use Rattle.cad_rows.specs.Views.{pure_tree}
use Rattle.cad_state.specs.Views.{state_over}
use Rattle.cad_state.proofs.Finding.{find_same}
use Rattle.cad_world.specs.Locations.{element}
use Rattle.cad_world.specs.State.{ok}
use Rattle.cad_assignments.specs.Code.Fills.{element_set}
use Rattle.cad_locations.specs.Code.Slots.{slot_seen}
use Rattle.cad_locations.specs.Views.{tree_seen}
use Rattle.cad_assignments.proofs.Fills.{element_set_free, element_full, element_out, element_stops}
use Rattle.cad_assignments.proofs.filling.fill_element_found.Goals as goal

pub returns-in-Ok-Free : goal.returns-in-Ok-Free
returns-in-Ok-Free c =
    let z = value_of c.args.n.now in
    let t = pure_tree c.args.tree in
    find_same no_value (fill (element c.args.label z) t) (element_set c.args.label z t) c.args.state.now c.set_element.new.state c.set_element.result
    (λ accounts ready. element_set_free c.args.label z t (state_over accounts c.args.state.now) (c.in-Ok-Free.ensures accounts ready ∙ ap (λ o. ok (slot_seen o) (state_over accounts c.args.state.now)) c.in-Ok-Free.field-0-is)) c.set_element.ensures

pub returns-in-Ok-Full : goal.returns-in-Ok-Full
returns-in-Ok-Full c = λ accounts ready.
    element_full c.args.label (value_of c.args.n.now) (pure_tree c.args.tree) (tree_seen c.in-Ok-Full.field-0-0) (state_over accounts c.args.state.now)
    (c.in-Ok-Full.ensures accounts ready ∙ ap (λ o. ok (slot_seen o) (state_over accounts c.args.state.now)) c.in-Ok-Full.field-0-is)

pub returns-in-Ok-Out : goal.returns-in-Ok-Out
returns-in-Ok-Out c = λ accounts ready.
    element_out c.args.label (value_of c.args.n.now) (pure_tree c.args.tree) (state_over accounts c.args.state.now)
    (c.in-Ok-Out.ensures accounts ready ∙ ap (λ o. ok (slot_seen o) (state_over accounts c.args.state.now)) c.in-Ok-Out.field-0-is)

pub returns-in-Err : goal.returns-in-Err
returns-in-Err c = λ accounts ready. element_stops c.args.label (value_of c.args.n.now) (pure_tree c.args.tree) (state_over accounts c.args.state.now) c.in-Err.stop (c.in-Err.ensures accounts ready)
