use Rattle.cad_evaluation.specs.Reading.{read_field}
use Rattle.cad_receivers.proofs.Passing.{after_settled, settled_stops}
use Rattle.cad_receivers.specs.Views.{receiver_of}
use Rattle.cad_rows.specs.Views.{pure_tree}
use Rattle.cad_selections.proofs.fields.get.Goals as goal

pub returns-in-Ok : goal.returns-in-Ok
returns-in-Ok c = after_settled pure_tree (receiver_of c.args.receiver.now) (read_field c.args.name.now c.args.right.now) c.in-Ok.settled
    c.args.state.now c.settle_receiver.new.state c.get_settled.new.state c.get_settled.result c.in-Ok.ensures c.get_settled.ensures

pub returns-in-Err : goal.returns-in-Err
returns-in-Err c = settled_stops pure_tree (receiver_of c.args.receiver.now) (read_field c.args.name.now c.args.right.now)
    c.args.state.now c.settle_receiver.new.state c.settle_receiver.new.state c.in-Err.stop c.in-Err.ensures
