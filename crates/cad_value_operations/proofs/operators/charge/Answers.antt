use Rattle.cad_evaluation.specs.Operators.{compared}
use Rattle.cad_operators.specs.Answers.{charge}
use Rattle.cad_outcomes.specs.Outcomes.{no_value}
use Rattle.cad_rows.specs.Views.{pure_tree}
use Rattle.cad_state.specs.Views.{state_over}
use Rattle.cad_value_operations.proofs.Looks.{does_from}
use Rattle.std.proofs.Common.{Bool, ap, sym, ◌∙◌}
use Rattle.std.specs.Prelude.{if◌then◌else◌}
use Rattle.cad_world.specs.State.{done}
use Rattle.cad_value_operations.proofs.operators.charge.Goals as goal

pub returns-then-is_comparison : goal.returns-then-is_comparison
returns-then-is_comparison c = λ w.
    let s = (state_over w c.args.state.now) in
    does_from no_value (charge c.args.operation (pure_tree c.args.a.now) (pure_tree c.args.b.now)) (compared (pure_tree c.args.a.now) (pure_tree c.args.b.now)) s s (state_over w c.compared.new.state) c.compared.result
    (ap (λ (x : Bool). (if x then compared (pure_tree c.args.a.now) (pure_tree c.args.b.now) else done) s) (sym c.is_comparison.ensures ∙ c.if-is_comparison.true)) (c.compared.ensures w)
