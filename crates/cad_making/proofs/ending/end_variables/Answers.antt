use Rattle.std.proofs.Common.{◌∙◌, sym}
use Rattle.cad_state.specs.Views.{state_over}
use Rattle.cad_making.proofs.Acts.{ends, owning}
use Rattle.cad_making.proofs.ending.end_variables.Goals as goal

pub returns-then-owns_variables : goal.returns-then-owns_variables
returns-then-owns_variables c = λ w. owning c.args.n (state_over w c.args.state.now) (sym c.if-owns_variables.true ∙ c.owns_variables.ensures w)

pub returns : goal.returns
returns c = λ w. ends c.args.n (state_over w c.args.state.now) (state_over w c.keep_variables.new.state) (sym c.if-owns_variables.false ∙ c.owns_variables.ensures w) (c.keep_variables.ensures w)
