use Rattle.cad_nodes.proofs.Twice.{changes}
use Rattle.cad_nodes.proofs.exchange.change_hinted.Goals as goal

pub returns-in-Some : goal.returns-in-Some
returns-in-Some c = changes c.a_node_with_the_label_is_the_node.ensures c.args.state.now c.take_way.new.state c.change_at-left.new.state c.give_way.new.state c.in-Some.way.root c.args.label c.in-Some.way.down.items c.args.edit
    c.change_at-left.result c.take_way.ensures.same c.in-Some.ensures.leads c.change_at-left.ensures c.give_way.ensures
