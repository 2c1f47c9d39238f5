use Rattle.cad_evaluation.specs.Operators.{compared}
use Rattle.cad_outcomes.specs.Outcomes.{no_value}
use Rattle.cad_rows.specs.Views.{pure_tree}
use Rattle.cad_state.specs.Views.{state_over}
use Rattle.cad_value_operations.proofs.Looks.{does_from}
use Rattle.cad_world.specs.State.{spend}
use Rattle.cad_world.specs.Trees.{tree_weight}
use Rattle.std.proofs.Common.{Bool, ap, sym, ◌∙◌}
use Rattle.std.specs.Prelude.{◌+◌, ◌-◌}
use Rattle.cad_world.specs.State.{require}
use Rattle.cad_value_operations.proofs.operators.compared.Goals as goal

pub returns-then-are_low : goal.returns-then-are_low
returns-then-are_low c = λ w.
    let s = (state_over w c.args.state.now) in
    let units = spend ((tree_weight (pure_tree c.args.a.now) - 1) + (tree_weight (pure_tree c.args.b.now) - 1)) in
    does_from no_value (compared (pure_tree c.args.a.now) (pure_tree c.args.b.now)) units s s (state_over w c.spend_parts.new.state) c.spend_parts.result
    (ap (λ (b : Bool). require 123 b units s) (sym c.are_low.ensures ∙ c.if-are_low.true)) (c.spend_parts.ensures w)
