use Rattle.cad_outcomes.specs.Outcomes.{no_value}
use Rattle.cad_expression_leaves.proofs.Going.{any_on, any_stopped}
use Rattle.cad_expression_leaves.specs.Code.Steps.{identity_drawn}
use Rattle.cad_world.specs.State.{tick}
use Rattle.cad_evaluation.specs.Making.{draw_identity}
use Rattle.std.proofs.Common.{ℕ}
use Rattle.cad_expressions.proofs.makes.next_identity.Goals as goal

pub returns-in-Ok : goal.returns-in-Ok
unfolding identity_drawn
returns-in-Ok c = any_on (tick) no_value (λ (identity : ℕ). identity) (λ _. draw_identity) c.tick.result tt c.args.state.now c.tick.new.self c.draw_identity.new.state c.draw_identity.result c.in-Ok.is c.tick.ensures c.draw_identity.ensures

pub returns-in-Err : goal.returns-in-Err
unfolding identity_drawn
returns-in-Err c = any_stopped {D = ℕ} (tick) no_value (λ (identity : ℕ). identity) (λ _. draw_identity) c.tick.result c.in-Err.stop c.args.state.now c.tick.new.self c.tick.new.self c.in-Err.is c.tick.ensures
