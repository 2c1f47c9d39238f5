use Rattle.cad_evaluation.specs.Uses.{callable}
use Rattle.cad_outcomes.specs.Outcomes.{no_value}
use Rattle.cad_receivers.proofs.Passing.{after_settled, settled_stops}
use Rattle.cad_receivers.specs.Views.{receiver_of}
use Rattle.cad_receivers.proofs.uses.check_callable.Goals as goal

pub returns-in-Ok : goal.returns-in-Ok
returns-in-Ok c = after_settled no_value (receiver_of c.args.receiver.now) (callable c.args.name.now) c.in-Ok.settled
    c.args.state.now c.settle_receiver.new.state c.settle_receiver.new.state c.check_settled.result c.in-Ok.ensures c.check_settled.ensures

pub returns-in-Err : goal.returns-in-Err
returns-in-Err c = settled_stops no_value (receiver_of c.args.receiver.now) (callable c.args.name.now)
    c.args.state.now c.settle_receiver.new.state c.settle_receiver.new.state c.in-Err.stop c.in-Err.ensures
