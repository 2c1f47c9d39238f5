use Rattle.cad_evaluation.specs.Standing.{field_of}
use Rattle.cad_rows.specs.Views.{pure_shape}
use Rattle.cad_world.specs.Receivers.{through}
use Rattle.cad_standing.specs.Views.{standing_of}
use Rattle.cad_receivers.proofs.Passing.{after_settled, settled_stops}
use Rattle.cad_standing.proofs.fields.field_target.Goals as goal

pub returns-in-Ok : goal.returns-in-Ok
returns-in-Ok c =
    after_settled standing_of (through (pure_shape c.args.shape.now)) (field_of c.args.writes c.args.field.now) c.in-Ok.settled
    c.args.state.now c.settle_reference.new.state c.settle_reference.new.state c.field_of_receiver.result c.in-Ok.ensures c.field_of_receiver.ensures

pub returns-in-Err : goal.returns-in-Err
returns-in-Err c =
    settled_stops standing_of (through (pure_shape c.args.shape.now)) (field_of c.args.writes c.args.field.now) c.args.state.now c.settle_reference.new.state c.settle_reference.new.state c.in-Err.stop c.in-Err.ensures
