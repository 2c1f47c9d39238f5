use Rattle.cad_evaluation.specs.Changing.{content_of}
use Rattle.cad_evaluation.specs.Uses.{nil_of}
use Rattle.cad_rows.specs.Views.{pure_shape}
use Rattle.cad_world.specs.Receivers.{through}
use Rattle.std.specs.Prelude.{Bool}
use Rattle.cad_receivers.proofs.Passing.{after_settled, settled_stops}
use Rattle.cad_standing.proofs.optionals.nil_target.Goals as goal

pub returns-in-Ok : goal.returns-in-Ok
returns-in-Ok c =
    after_settled {C = Bool} (λ b. b) (through (pure_shape c.args.shape.now)) (λ spot. nil_of (content_of spot.tree)) c.in-Ok.settled
    c.args.state.now c.settle_reference.new.state c.settle_reference.new.state c.nil_of_receiver.result c.in-Ok.ensures c.nil_of_receiver.ensures

pub returns-in-Err : goal.returns-in-Err
returns-in-Err c =
    settled_stops {C = Bool} (λ b. b) (through (pure_shape c.args.shape.now)) (λ spot. nil_of (content_of spot.tree)) c.args.state.now c.settle_reference.new.state c.settle_reference.new.state c.in-Err.stop c.in-Err.ensures
