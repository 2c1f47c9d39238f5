use Rattle.cad_evaluation.specs.Reading.{read_index}
use Rattle.cad_rows.specs.Views.{pure_tree}
use Rattle.cad_receivers.proofs.Passing.{after_settled, settled_stops}
use Rattle.cad_receivers.specs.Views.{receiver_of}
use Rattle.cad_selections.proofs.indices.index.Goals as goal

pub returns-in-Ok : goal.returns-in-Ok
returns-in-Ok c = after_settled pure_tree (receiver_of c.args.receiver.now) (read_index (pure_tree c.args.index.now)) c.in-Ok.settled
    c.args.state.now c.settle_receiver.new.state c.index_settled.new.state c.index_settled.result c.in-Ok.ensures c.index_settled.ensures

pub returns-in-Err : goal.returns-in-Err
returns-in-Err c = settled_stops pure_tree (receiver_of c.args.receiver.now) (read_index (pure_tree c.args.index.now))
    c.args.state.now c.settle_receiver.new.state c.settle_receiver.new.state c.in-Err.stop c.in-Err.ensures
