use Rattle.std.proofs.Common.{List, map, drop, Result}
use Rattle.cad_declarations.specs.Typed.{entries_of}
use Rattle.cad_declarations.specs.Views.{pair_of}
use Rattle.cad_evaluation.specs.Uses.{Pair}
use Rattle.cad_expression_leaves.specs.Code.Steps.{after, entries}
use Rattle.cad_expression_leaves.specs.Views.{pairs_of}
use Rattle.cad_outcomes.specs.declared.stop.Stop.{Stop}
use Rattle.cad_state.specs.Views.{FindsAndCarriesOut}
use Rattle.cad_state.specs.declared.state.RunState.{RunState}
use Rattle.cad_syntax.specs.Types.{pure_type}
use Rattle.cad_expressions.proofs.entries.push_entries.Given as goal

abbrev pub invariant-loop-a : goal.invariant-loop-a
invariant-loop-a g l = (z : RunState) (ps : List Pair) (r : Result (Unit {0}) Stop)
    → FindsAndCarriesOut (λ (u : Unit {0}). ps) (after (pairs_of l.pairs) (entries (g.E.Evaluator.front l.evaluator) (g.E.Evaluator.calls l.evaluator) (pure_type l.key) (pure_type l.value) (entries_of (map pair_of (drop l.a-index l.all))))) l.state z r
    → FindsAndCarriesOut (λ (u : Unit {0}). ps) (after (pairs_of l.initial.pairs) (entries (g.E.Evaluator.front l.evaluator) (g.E.Evaluator.calls l.evaluator) (pure_type l.key) (pure_type l.value) (entries_of (map pair_of l.all)))) l.initial.state z r
