use Rattle.std.proofs.Common.{map, drop, Result}
use Rattle.cad_declarations.specs.Typed.{arguments_of}
use Rattle.cad_declarations.specs.Views.{argument_of}
use Rattle.cad_expression_leaves.specs.Code.Steps.{behind, arguments}
use Rattle.cad_outcomes.specs.declared.stop.Stop.{Stop}
use Rattle.cad_rows.specs.Views.{pure_row}
use Rattle.cad_state.specs.Views.{FindsAndCarriesOut}
use Rattle.cad_state.specs.declared.state.RunState.{RunState}
use Rattle.cad_world.specs.Rows.{Row}
use Rattle.cad_expressions.proofs.rows.push_arguments.Given as goal

abbrev pub invariant-loop-a : goal.invariant-loop-a
invariant-loop-a g l = (z : RunState) (rs : Row) (r : Result (Unit {0}) Stop)
    → FindsAndCarriesOut (λ (u : Unit {0}). rs) (behind (pure_row l.row.items) (arguments (g.E.Evaluator.front l.evaluator) (g.E.Evaluator.calls l.evaluator) (arguments_of (map argument_of (drop l.a-index l.all))))) l.state z r
    → FindsAndCarriesOut (λ (u : Unit {0}). rs) (behind (pure_row l.initial.row.items) (arguments (g.E.Evaluator.front l.evaluator) (g.E.Evaluator.calls l.evaluator) (arguments_of (map argument_of l.all)))) l.initial.state z r
