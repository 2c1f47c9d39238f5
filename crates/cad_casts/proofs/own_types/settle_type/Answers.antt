use Rattle.cad_casts.proofs.Settles.{settled_none, settled_some}
use Rattle.cad_casts.specs.Settled.{settled}
use Rattle.cad_outcomes.specs.Outcomes.{no_value}
use Rattle.cad_rows.specs.Views.{pure_shape}
use Rattle.cad_state.proofs.Finding.{find_any, find_same}
use Rattle.cad_state.specs.Views.{state_over}
use Rattle.cad_world.specs.Locations.{with_found}
use Rattle.cad_world.specs.State.{done}
use Rattle.cad_casts.proofs.own_types.settle_type.Goals as goal

pub returns-in-Some : goal.returns-in-Some
returns-in-Some c =
    find_same no_value (settled (pure_shape c.args.shape.now)) (with_found c.in-Some.label (λ f. done)) c.args.state.now c.find_node.new.state c.find_node.result
    (λ w ready. settled_some (pure_shape c.args.shape.now) c.in-Some.label (state_over w c.args.state.now) c.in-Some.ensures)
    c.find_node.ensures

pub returns-in-None : goal.returns-in-None
returns-in-None c =
    let x = c.args.state.now in
    let y = c.know_controller.new.state in
    find_same no_value (settled (pure_shape c.args.shape.now)) done x y c.know_controller.result (λ w ready. settled_none (pure_shape c.args.shape.now) (state_over w x) c.in-None.ensures)
    (find_any no_value done x y c.know_controller.result c.know_controller.ensures)
