use Rattle.cad_rows.specs.Views.{pure_tree}
use Rattle.cad_state.specs.Views.{state_over}
use Rattle.cad_state.proofs.Filling.{takes, nothing_to_take}
use Rattle.cad_state.proofs.state.RunState.take_variable.Goals as goal

pub returns-in-Some : goal.returns-in-Some
returns-in-Some c = λ accounts. takes c.args.x (state_over accounts c.args.self.now) (state_over accounts c.clear_variable.new.self) (pure_tree c.in-Some.tree) (c.in-Some.ensures.tree accounts) (c.clear_variable.ensures.state accounts)

pub returns-in-None : goal.returns-in-None
returns-in-None c = λ accounts. nothing_to_take c.args.x (state_over accounts c.args.self.now) (c.in-None.ensures.tree accounts)
