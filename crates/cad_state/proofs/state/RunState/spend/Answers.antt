use Rattle.cad_state.specs.Views.{state_over}
use Rattle.cad_state.proofs.Spending.{spends, lacks}
use Rattle.cad_state.proofs.state.RunState.spend.Goals as goal

pub returns-then-n-self : goal.returns-then-n-self
returns-then-n-self c = λ accounts. spends c.args.n (state_over accounts c.args.self.now) c.if-n-self.true

pub returns : goal.returns
returns c = λ accounts. lacks c.args.n (state_over accounts c.args.self.now) c.if-n-self.false
