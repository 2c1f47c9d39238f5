use Rattle.cad_rows.specs.Views.{pure_tree}
use Rattle.cad_syntax.specs.Types.{pure_type}
use Rattle.cad_state.specs.Views.{state_over}
use Rattle.cad_state.proofs.Spending.{hands_nothing}
use Rattle.cad_state.proofs.state.RunState.hand_over.Goals as goal

pub returns-in-Err : goal.returns-in-Err
returns-in-Err c = λ accounts. hands_nothing (pure_type c.args.declared.now) (pure_tree c.args.tree.now) (state_over accounts c.args.self.now) c.in-Err.stop (c.in-Err.ensures accounts)
