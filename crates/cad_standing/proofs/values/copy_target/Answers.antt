use Rattle.cad_evaluation.specs.Reading.{copied}
use Rattle.cad_rows.specs.Views.{pure_shape, pure_tree}
use Rattle.cad_world.specs.Receivers.{through}
use Rattle.cad_receivers.proofs.Passing.{after_settled, settled_stops}
use Rattle.cad_standing.proofs.values.copy_target.Goals as goal

pub returns-in-Ok : goal.returns-in-Ok
returns-in-Ok c =
    after_settled pure_tree (through (pure_shape c.args.shape.now)) (λ spot. copied spot.tree) c.in-Ok.settled
    c.args.state.now c.settle_reference.new.state c.settle_reference.new.state c.copy_receiver.result c.in-Ok.ensures c.copy_receiver.ensures

pub returns-in-Err : goal.returns-in-Err
returns-in-Err c =
    settled_stops pure_tree (through (pure_shape c.args.shape.now)) (λ spot. copied spot.tree) c.args.state.now c.settle_reference.new.state c.settle_reference.new.state c.in-Err.stop c.in-Err.ensures
