use Rattle.cad_evaluation.specs.Reading.{read_field}
use Rattle.cad_receivers.proofs.Passing.{look_stops}
use Rattle.cad_selections.proofs.Passing.{looked_leaves}
use Rattle.cad_selections.specs.Code.Readings.{reading_of}
use Rattle.cad_receivers.specs.Views.{settled_of}
use Rattle.cad_selections.proofs.fields.field_reading.Goals as goal

pub returns-in-Ok : goal.returns-in-Ok
returns-in-Ok c = looked_leaves reading_of (settled_of c.args.receiver) (read_field c.args.name.now c.args.right.now) c.in-Ok.spot c.args.state.now c.read_field.result c.in-Ok.ensures c.read_field.ensures

pub returns-in-Err : goal.returns-in-Err
returns-in-Err c = look_stops (settled_of c.args.receiver) (read_field c.args.name.now c.args.right.now) c.args.state.now c.in-Err.stop c.in-Err.ensures
