use Rattle.cad_evaluation.specs.Casts as casts
use Rattle.cad_receivers.proofs.Passing.{after_settled, settled_stops}
use Rattle.cad_rows.specs.Views.{pure_shape, pure_tree}
use Rattle.cad_world.specs.Receivers.{through}
use Rattle.cad_value_operations.proofs.operators.referred.Goals as goal

pub returns-in-Ok : goal.returns-in-Ok
returns-in-Ok c = after_settled pure_tree (through (pure_shape c.args.shape.now)) casts.dereferenced c.in-Ok.settled c.args.state.now c.settle_reference.new.state c.settle_reference.new.state c.copied_here.result c.in-Ok.ensures c.copied_here.ensures

pub returns-in-Err : goal.returns-in-Err
returns-in-Err c = settled_stops pure_tree (through (pure_shape c.args.shape.now)) casts.dereferenced c.args.state.now c.settle_reference.new.state c.settle_reference.new.state c.in-Err.stop c.in-Err.ensures
