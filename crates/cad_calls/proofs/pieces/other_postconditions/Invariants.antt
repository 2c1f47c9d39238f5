use Rattle.std.proofs.Common.{◌≤◌, length, map, reverse, take, Result}
use Rattle.cad_function_sources.specs.Sources.{piece_of}
use Rattle.cad_evaluation.specs.Bodies as spec
use Rattle.cad_outcomes.specs.Outcomes.{no_value}
use Rattle.cad_outcomes.specs.declared.stop.Stop.{Stop}
use Rattle.cad_state.specs.Views.{FindsAndCarriesOut}
use Rattle.cad_state.specs.declared.state.RunState.{RunState}
use Rattle.cad_calls.proofs.pieces.other_postconditions.Given as goal

abbrev pub invariant-loop-left : goal.invariant-loop-left
invariant-loop-left g l =
    (l.left ≤ length l.others) × ((z : RunState) (r : Result (Unit {0}) Stop) → FindsAndCarriesOut no_value (spec.postconditions (g.C.Callees.front l.callees) (g.C.Callees.calls l.callees) (reverse (map piece_of (take l.left l.others)))) l.state z r
    → FindsAndCarriesOut no_value (spec.postconditions (g.C.Callees.front l.callees) (g.C.Callees.calls l.callees) (reverse (map piece_of l.others))) l.fn.state z r)

abbrev pub decreases-loop-left : goal.decreases-loop-left
decreases-loop-left g l = l.left
