use Rattle.std.proofs.Common.{◌∙◌, ap, sym}
use Rattle.cad_rows.specs.Views.{pure_tree}
use Rattle.cad_state.specs.Views.{state_over}
use Rattle.cad_state.specs.Ways.{holds_tree}
use Rattle.cad_state.proofs.Filling.{fills, refuses}
use Rattle.cad_state.proofs.state.RunState.fill_variable.Goals as goal

pub returns-then-holds_tree : goal.returns-then-holds_tree
returns-then-holds_tree c = λ accounts. refuses c.args.x (pure_tree c.args.tree) (state_over accounts c.args.self.now)
    (ap holds_tree (sym (c.variable.ensures accounts)) ∙ sym c.holds_tree.ensures ∙ c.if-holds_tree.true)

pub returns-in-Ok : goal.returns-in-Ok
returns-in-Ok c = λ accounts. fills c.args.x (pure_tree c.args.tree) (state_over accounts c.args.self.now) (state_over accounts c.put_variable.new.self)
    (ap holds_tree (sym (c.variable.ensures accounts)) ∙ sym c.holds_tree.ensures ∙ c.if-holds_tree.false) (c.in-Ok.ensures accounts)
