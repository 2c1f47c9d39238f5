use Rattle.cad_outcomes.specs.Outcomes.{Does, no_value}
use Rattle.cad_state.specs.Views.{state_over}
use Rattle.cad_world.specs.State.{spend}
use Rattle.std.proofs.Common.{subst, ℕ}
use Rattle.cad_value_operations.proofs.operators.spend_parts.Goals as goal

pub returns-in-Ok : goal.returns-in-Ok
returns-in-Ok c = λ w. subst (λ (n : ℕ). Does no_value (spend n) (state_over w c.args.state.now) (state_over w c.spend.new.self) c.spend.result) c.in-Ok.ensures (c.spend.ensures w)
