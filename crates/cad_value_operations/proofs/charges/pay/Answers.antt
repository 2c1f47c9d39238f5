use Rattle.cad_outcomes.proofs.Steps.{stops_on}
use Rattle.cad_rows.specs.Views.{pure_tree}
use Rattle.cad_state.specs.Views.{state_over}
use Rattle.cad_value_operations.specs.Code.Members.{cost_of}
use Rattle.cad_world.specs.State.{give}
use Rattle.cad_value_operations.proofs.charges.pay.Goals as goal

pub returns-in-Err : goal.returns-in-Err
returns-in-Err c = λ w. stops_on (cost_of c.args.more (pure_tree c.args.tree) (state_over w c.args.state.now)) (λ _. give (pure_tree c.args.tree)) c.in-Err.stop (c.in-Err.ensures w)
