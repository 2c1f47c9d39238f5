use Rattle.cad_evaluation.specs.Reading.{read_index}
use Rattle.cad_receivers.proofs.Passing.{look_stops}
use Rattle.cad_selections.proofs.Passing.{looked_leaves}
use Rattle.cad_selections.specs.Code.Readings.{reading_of}
use Rattle.cad_receivers.specs.Views.{settled_of}
use Rattle.cad_rows.specs.Views.{pure_tree}
use Rattle.cad_state.specs.Views.{state_over}
use Rattle.cad_selections.proofs.indices.index_reading.Goals as goal

pub returns-in-Ok : goal.returns-in-Ok
returns-in-Ok c = looked_leaves reading_of (settled_of c.args.receiver) (read_index (pure_tree c.args.index.now)) c.in-Ok.spot c.args.state.now c.read_index.result c.in-Ok.ensures
    (λ w. c.read_index.ensures (state_over w c.args.state.now))

pub returns-in-Err : goal.returns-in-Err
returns-in-Err c = look_stops (settled_of c.args.receiver) (read_index (pure_tree c.args.index.now)) c.args.state.now c.in-Err.stop c.in-Err.ensures
