use Rattle.std.proofs.Common.{◌∙◌, ap, sym}
use Rattle.cad_rows.specs.Views.{pure_tree}
use Rattle.cad_state.specs.Views.{state_over}
use Rattle.cad_state.specs.Ways.{holds_resource}
use Rattle.cad_state.proofs.Filling.{assigns, keeps_resource}
use Rattle.cad_state.proofs.state.RunState.assign_variable.Goals as goal

pub returns-then-holds_resource : goal.returns-then-holds_resource
returns-then-holds_resource c = λ accounts. keeps_resource c.args.x (pure_tree c.args.tree) (state_over accounts c.args.self.now)
    (ap holds_resource (sym (c.variable.ensures accounts)) ∙ sym c.holds_resource.ensures ∙ c.if-holds_resource.true)

pub returns-in-Ok : goal.returns-in-Ok
returns-in-Ok c = λ accounts. assigns c.args.x (pure_tree c.args.tree) (state_over accounts c.args.self.now) (state_over accounts c.put_variable.new.self)
    (ap holds_resource (sym (c.variable.ensures accounts)) ∙ sym c.holds_resource.ensures ∙ c.if-holds_resource.false) (c.in-Ok.ensures accounts)
