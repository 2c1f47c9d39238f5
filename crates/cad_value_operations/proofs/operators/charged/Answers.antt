use Rattle.cad_operators.specs.Answers.{answer, charge}
use Rattle.cad_outcomes.proofs.Steps.{stops_on, then}
use Rattle.cad_rows.specs.Views.{pure_tree}
use Rattle.cad_state.specs.Views.{state_over}
use Rattle.cad_world.specs.State.{give, ◌>>◌}
use Rattle.std.proofs.Common.{Err}
use Rattle.cad_value_operations.proofs.operators.charged.Goals as goal

pub returns-in-Err-charge : goal.returns-in-Err-charge
returns-in-Err-charge c = λ w.
    let s = (state_over w c.args.state.now) in
    then pure_tree (answer c.args.operation (pure_tree c.args.a.now) (pure_tree c.args.b.now)) (λ r. charge c.args.operation (pure_tree c.args.a.now) (pure_tree c.args.b.now) >> give r) (pure_tree c.in-Ok.made) s s s (Err c.in-Err-charge.stop) (c.in-Ok.ensures s)
    (stops_on (charge c.args.operation (pure_tree c.args.a.now) (pure_tree c.args.b.now) s) (λ _. give (pure_tree c.in-Ok.made)) c.in-Err-charge.stop (c.in-Err-charge.ensures w))

pub returns-in-Err : goal.returns-in-Err
returns-in-Err c = λ w. stops_on (answer c.args.operation (pure_tree c.args.a.now) (pure_tree c.args.b.now) (state_over w c.args.state.now)) (λ r. charge c.args.operation (pure_tree c.args.a.now) (pure_tree c.args.b.now) >> give r) c.in-Err.stop (c.in-Err.ensures (state_over w c.args.state.now))
