use Rattle.std.proofs.Common.{arith}
use Rattle.cad_rows.specs.Views.{pure_tree}
use Rattle.cad_state.specs.Views.{state_over}
use Rattle.cad_state.proofs.Spending.{charges}
use Rattle.cad_state.proofs.state.RunState.charge.Goals as goal

pub returns : goal.returns
returns c = λ accounts. charges (pure_tree c.args.tree.now) (state_over accounts c.args.self.now) (state_over accounts c.spend.new.self)
    c.tree_height-height.result c.tree_weight-weight.result c.saturating_sub.result c.spend.result
    c.tree_height-height.ensures c.if-height-gt256.false c.tree_weight-weight.ensures
    (omega (arith, c.if-weight.false, c.tree_weight-weight.ensures)) (omega (arith, c.saturating_sub.ensures)) (c.spend.ensures accounts)
