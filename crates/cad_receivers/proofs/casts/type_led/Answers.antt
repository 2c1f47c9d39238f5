use Rattle.cad_receivers.proofs.Passing.{after_settled, settled_stops}
use Rattle.cad_receivers.specs.Code.Casts.{type_led}
use Rattle.cad_rows.specs.Views.{pure_shape}
use Rattle.cad_syntax.specs.Types.{pure_type}
use Rattle.cad_world.specs.Receivers.{through}
use Rattle.cad_receivers.proofs.casts.type_led.Goals as goal

pub returns-in-Ok : goal.returns-in-Ok
returns-in-Ok c =
    after_settled pure_type (through (pure_shape c.args.shape.now)) (type_led c.args.rights.now c.args.depth) c.in-Ok.settled c.args.state.now c.settle_reference.new.state c.settle_reference.new.state
    c.type_of_settled.result c.in-Ok.ensures c.type_of_settled.ensures

pub returns-in-Err : goal.returns-in-Err
returns-in-Err c =
    settled_stops pure_type (through (pure_shape c.args.shape.now)) (type_led c.args.rights.now c.args.depth) c.args.state.now c.settle_reference.new.state c.settle_reference.new.state
    c.in-Err.stop c.in-Err.ensures
