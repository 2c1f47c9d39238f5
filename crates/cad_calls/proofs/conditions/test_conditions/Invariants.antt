use Rattle.std.proofs.Common.{map, drop, Result}
use Rattle.cad_declarations.specs.Views.{condition_of}
use Rattle.cad_evaluation.specs.Bodies as spec
use Rattle.cad_outcomes.specs.Outcomes.{no_value}
use Rattle.cad_outcomes.specs.declared.stop.Stop.{Stop}
use Rattle.cad_state.specs.Views.{FindsAndCarriesOut}
use Rattle.cad_state.specs.declared.state.RunState.{RunState}
use Rattle.cad_calls.proofs.conditions.test_conditions.Given as goal

abbrev pub invariant-loop-one : goal.invariant-loop-one
invariant-loop-one g l =
    (z : RunState) (r : Result (Unit {0}) Stop) → FindsAndCarriesOut no_value (spec.all_tested (g.C.Callees.front l.callees) (g.C.Callees.calls l.callees) (map condition_of (drop l.one-index l.all))) l.state z r
    → FindsAndCarriesOut no_value (spec.all_tested (g.C.Callees.front l.callees) (g.C.Callees.calls l.callees) (map condition_of l.all)) l.fn.state z r
