use Rattle.cad_evaluation.specs.Builtins.{may_use}
use Rattle.cad_world.specs.Receivers.{Spot}
use Rattle.cad_world.specs.State.{done, guard}
use Rattle.cad_outcomes.specs.Outcomes.{no_value}
use Rattle.cad_receivers.proofs.Passing.{after_settled, settled_stops}
use Rattle.cad_receivers.specs.Views.{receiver_of}
use Rattle.cad_receivers.proofs.uses.check_use.Goals as goal

pub returns-in-Ok : goal.returns-in-Ok
returns-in-Ok c = after_settled no_value (receiver_of c.args.receiver.now) (λ (first : Spot). guard (may_use c.args.member first) done) c.in-Ok.settled
    c.args.state.now c.settle_receiver.new.state c.settle_receiver.new.state c.check_rights_settled.result c.in-Ok.ensures c.check_rights_settled.ensures

pub returns-in-Err : goal.returns-in-Err
returns-in-Err c = settled_stops no_value (receiver_of c.args.receiver.now) (λ (first : Spot). guard (may_use c.args.member first) done)
    c.args.state.now c.settle_receiver.new.state c.settle_receiver.new.state c.in-Err.stop c.in-Err.ensures
