use Rattle.std.proofs.Common.{map, drop, Result}
use Rattle.cad_declarations.specs.Views.{before_of}
use Rattle.cad_evaluation.specs.Bodies as spec
use Rattle.cad_outcomes.specs.Outcomes.{no_value}
use Rattle.cad_outcomes.specs.declared.stop.Stop.{Stop}
use Rattle.cad_state.specs.Views.{FindsAndCarriesOut}
use Rattle.cad_state.specs.declared.state.RunState.{RunState}
use Rattle.cad_calls.proofs.conditions.keep_values.Given as goal

abbrev pub invariant-loop-before : goal.invariant-loop-before
invariant-loop-before g l =
    (z : RunState) (r : Result (Unit {0}) Stop) → FindsAndCarriesOut no_value (spec.values_before (g.C.Callees.front l.callees) (g.C.Callees.calls l.callees) (map before_of (drop l.before-index l.all))) l.state z r
    → FindsAndCarriesOut no_value (spec.values_before (g.C.Callees.front l.callees) (g.C.Callees.calls l.callees) (map before_of l.all)) l.fn.state z r
