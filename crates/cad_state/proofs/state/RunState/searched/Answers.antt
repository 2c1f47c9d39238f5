use Rattle.cad_state.proofs.Standing.{hinted_some}
use Rattle.cad_state.proofs.state.RunState.searched.Goals as goal

pub returns-in-Ok-Some : goal.returns-in-Ok-Some
returns-in-Ok-Some c = hinted_some c.a_node_with_the_label_is_the_node.ensures c.args.self.now c.in-Ok-Some.way c.args.label c.reach_labelled.result c.reach_labelled.ensures
