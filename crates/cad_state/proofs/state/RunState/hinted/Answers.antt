use Rattle.cad_state.proofs.Standing.{hinted_some}
use Rattle.cad_state.proofs.state.RunState.hinted.Goals as goal

pub returns-in-Some : goal.returns-in-Some
returns-in-Some c = hinted_some c.a_node_with_the_label_is_the_node.ensures c.args.self.now c.in-Some.way.now c.args.label c.reach_labelled.result c.reach_labelled.ensures
