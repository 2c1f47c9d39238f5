use Rattle.cad_evaluation.specs.Reading.{read_uuid}
use Rattle.cad_rows.specs.Views.{pure_tree}
use Rattle.cad_outcomes.proofs.Steps.{gives_here}
use Rattle.cad_state.specs.Views.{state_over}
use Rattle.cad_receivers.specs.Views.{spot_of}
use Rattle.cad_receivers.proofs.Passing.{looked, look_stops}
use Rattle.cad_receivers.specs.Views.{settled_of}
use Rattle.cad_receivers.proofs.uses.uuid.Goals as goal

pub returns-in-Ok : goal.returns-in-Ok
returns-in-Ok c = looked pure_tree (settled_of c.args.receiver) (read_uuid) c.in-Ok.spot c.args.state.now c.uuid_of_spot.result c.in-Ok.ensures
    (λ w. gives_here pure_tree (read_uuid (spot_of c.in-Ok.spot)) c.uuid_of_spot.result (state_over w c.args.state.now) c.uuid_of_spot.ensures)

pub returns-in-Err : goal.returns-in-Err
returns-in-Err c = look_stops (settled_of c.args.receiver) (read_uuid) c.args.state.now c.in-Err.stop c.in-Err.ensures
