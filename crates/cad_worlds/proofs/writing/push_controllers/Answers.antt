use Rattle.std.proofs.Common.{◌++◌, map, add-one, arith}
use Rattle.cad_worlds.proofs.Sections.{item_turn, item_end}
use Rattle.cad_worlds.specs.Sections.{controlled_of}
use Rattle.cad_worlds.specs.Standing.{register_of}
use Rattle.cad_worlds.proofs.writing.push_controllers.Goals as goal

pub loop-controller-preserved : goal.loop-controller-preserved
loop-controller-preserved c =
    let all = map register_of c.args.rows.now.items ++ map (controlled_of c.args.address) c.args.controllers.now in
    rw add-one (item_turn (controlled_of c.args.address) c.args.controllers.now c.loop-controller.controller-index c.controller-item.result (map register_of c.loop-controller.rows.items) (map register_of c.push_controller.new.rows.items) all (omega arith) c.controller-item.is c.loop-controller.invariant c.in_ok-push_controller.ensures)

pub returns : goal.returns
returns c =
    let all = map register_of c.args.rows.now.items ++ map (controlled_of c.args.address) c.args.controllers.now in
    item_end (controlled_of c.args.address) c.args.controllers.now c.loop-controller.controller-index (map register_of c.loop-controller.rows.items) all (omega arith) c.loop-controller.invariant
