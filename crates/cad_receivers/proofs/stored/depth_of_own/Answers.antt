use Rattle.std.proofs.Common.{Bool, sym, ap, ◌∙◌}
use Rattle.cad_state.specs.Views.{state_over}
use Rattle.cad_world.specs.State.{give, require}
use Rattle.cad_receivers.proofs.stored.depth_of_own.Goals as goal

pub returns-in-Ok-true : goal.returns-in-Ok-true
returns-in-Ok-true c = λ w. ap (λ (b : Bool). require 114 b (give c.args.depth) (state_over w c.args.state.now)) (sym (c.in-Ok-true.ensures.told w) ∙ c.in-Ok-true.field-0-test)

pub returns-in-Ok-false : goal.returns-in-Ok-false
returns-in-Ok-false c = λ w. ap (λ (b : Bool). require 114 b (give c.args.depth) (state_over w c.args.state.now)) (sym (c.in-Ok-false.ensures.told w) ∙ c.in-Ok-false.field-0-test)
