use Rattle.std.proofs.Common.{◌≡◌, ◌+◌, List, drop, Result}
use Rattle.cad_evaluation.specs.Ending.{events_of}
use Rattle.cad_expressions.specs.Code.Ending.{made_behind}
use Rattle.cad_expression_leaves.specs.Views.{trees_of}
use Rattle.cad_outcomes.specs.declared.stop.Stop.{Stop}
use Rattle.cad_state.specs.Views.{FindsAndCarriesOut}
use Rattle.cad_state.specs.declared.state.RunState.{RunState}
use Rattle.cad_world.specs.Rows.{Tree}
use Rattle.cad_expressions.proofs.ends.push_events.Given as goal

abbrev pub invariant-loop-of : goal.invariant-loop-of
invariant-loop-of g l = record {
  counted : l.label ≡ l.first_label + l.of-index;
  comes : (z : RunState) (all : List Tree) (r : Result (Unit {0}) Stop)
      → FindsAndCarriesOut (λ (u : Unit {0}). all) (made_behind (trees_of l.events) (events_of (g.E.Evaluator.calls l.evaluator) l.label (drop l.of-index l.types))) l.state z r
      → FindsAndCarriesOut (λ (u : Unit {0}). all) (made_behind (trees_of l.initial.events) (events_of (g.E.Evaluator.calls l.evaluator) l.first_label l.types)) l.initial.state z r;
}
