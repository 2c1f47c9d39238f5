use Rattle.cad_nodes.proofs.Twice.{changes_at}
use Rattle.cad_nodes.proofs.exchange.change_at.Goals as goal

pub returns : goal.returns
returns c = changes_at c.args.way.now.root c.args.way.now.down.items c.args.edit c.edit_node-left.result c.args.state.now c.swap_at.new.state c.swap_at-2.new.state
    c.no_node-node.result c.swap_at.new.node c.edit_node-left.new.node c.swap_at-2.new.node
    c.swap_at.ensures c.swap_at-2.ensures c.edit_node-left.ensures.shape c.edit_node-left.ensures.parts c.edit_node-left.ensures.left
