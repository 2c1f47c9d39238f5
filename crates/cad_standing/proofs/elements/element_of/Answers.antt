use Rattle.cad_evaluation.specs.Standing.{element_of}
use Rattle.cad_receivers.specs.Views.{receiver_of}
use Rattle.cad_rows.specs.Views.{pure_tree}
use Rattle.cad_standing.specs.Views.{standing_of}
use Rattle.cad_receivers.proofs.Passing.{after_settled, settled_stops}
use Rattle.cad_standing.proofs.elements.element_of.Goals as goal

pub returns-in-Ok : goal.returns-in-Ok
returns-in-Ok c =
    after_settled standing_of (receiver_of c.args.base.now) (element_of c.args.writes (pure_tree c.args.index.now)) c.in-Ok.settled
    c.args.state.now c.settle_receiver.new.state c.settle_receiver.new.state c.element_of_receiver.result c.in-Ok.ensures c.element_of_receiver.ensures

pub returns-in-Err : goal.returns-in-Err
returns-in-Err c =
    settled_stops standing_of (receiver_of c.args.base.now) (element_of c.args.writes (pure_tree c.args.index.now)) c.args.state.now c.settle_receiver.new.state c.settle_receiver.new.state c.in-Err.stop c.in-Err.ensures
