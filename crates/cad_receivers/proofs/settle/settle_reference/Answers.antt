use Rattle.std.proofs.Common.{ap, refl}
use Rattle.cad_receivers.proofs.Targets.{link_settles, link_stops}
use Rattle.cad_receivers.specs.declared.receivers.Settled.TheVariants.{Through}
use Rattle.cad_rows.specs.Views.{pure_shape}
use Rattle.cad_receivers.proofs.settle.settle_reference.Goals as goal

pub returns-in-Ok : goal.returns-in-Ok
returns-in-Ok c =
    link_settles (pure_shape c.args.shape.now) c.in-Link.authorization c.in-Link.label c.in-Link.sees (Through c.args.shape) c.args.state.now c.find_node.new.state
    (ap pure_shape c.in-Link.is) refl c.in-Ok.ensures

pub returns-in-Err : goal.returns-in-Err
returns-in-Err c =
    link_stops (pure_shape c.args.shape.now) c.in-Link.authorization c.in-Link.label c.in-Link.sees c.args.state.now c.find_node.new.state c.in-Err.stop
    (ap pure_shape c.in-Link.is) c.in-Err.ensures

pub returns-in-Plain : goal.returns-in-Plain
returns-in-Plain c = rw c.in-Plain.is c.settle_value.ensures
