use Rattle.cad_receivers.proofs.Passing.{after_settled, settled_stops}
use Rattle.cad_receivers.specs.Views.{receiver_of}
use Rattle.cad_rows.specs.Views.{pure_tree}
use Rattle.cad_world.specs.State.{stuck}
use Rattle.cad_expression_leaves.proofs.reads.refuse.Goals as goal

pub returns-in-Ok : goal.returns-in-Ok
returns-in-Ok c = after_settled pure_tree (receiver_of c.args.receiver.now) (λ spot. stuck) c.in-Ok.settled c.args.state.now c.settle_receiver.new.state c.settle_receiver.new.state c.refuse_settled.result c.in-Ok.ensures c.refuse_settled.ensures

pub returns-in-Err : goal.returns-in-Err
returns-in-Err c = settled_stops pure_tree (receiver_of c.args.receiver.now) (λ spot. stuck) c.args.state.now c.settle_receiver.new.state c.settle_receiver.new.state c.in-Err.stop c.in-Err.ensures
