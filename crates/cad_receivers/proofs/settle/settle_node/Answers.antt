use Rattle.std.proofs.Common.{option_map, refl}
use Rattle.cad_receivers.proofs.Targets.{node_settles, node_stops}
use Rattle.cad_receivers.specs.declared.receivers.Settled.TheVariants.{Standing}
use Rattle.cad_world.specs.Receivers.{standing}
use Rattle.cad_receivers.proofs.settle.settle_node.Goals as goal

pub returns-in-Ok : goal.returns-in-Ok
returns-in-Ok c =
    let rights = option_map (λ own. own.now) c.args.rights in
    node_settles rights c.args.label c.args.sees (standing rights c.args.label c.args.sees) (Standing c.args.rights c.args.label c.args.sees) c.args.state.now c.find_node.new.state refl c.in-Ok.ensures

pub returns-in-Err : goal.returns-in-Err
returns-in-Err c =
    let rights = option_map (λ own. own.now) c.args.rights in
    node_stops rights c.args.label c.args.sees (standing rights c.args.label c.args.sees) c.args.state.now c.find_node.new.state c.in-Err.stop c.in-Err.ensures
