use Rattle.std.proofs.Common.{◌++◌, map, drop, Result}
use Rattle.cad_calls.specs.Pieces.{maybe_piece}
use Rattle.cad_function_sources.specs.Sources.{piece_of}
use Rattle.cad_evaluation.specs.Bodies as spec
use Rattle.cad_outcomes.specs.Outcomes.{no_value}
use Rattle.cad_outcomes.specs.declared.stop.Stop.{Stop}
use Rattle.cad_state.specs.Views.{FindsAndCarriesOut}
use Rattle.cad_state.specs.declared.state.RunState.{RunState}
use Rattle.cad_calls.proofs.pieces.preconditions.Given as goal

abbrev pub invariant-loop-piece : goal.invariant-loop-piece
invariant-loop-piece g l =
    (z : RunState) (r : Result (Unit {0}) Stop) → FindsAndCarriesOut no_value (spec.preconditions (g.C.Callees.front l.callees) (g.C.Callees.calls l.callees) (map piece_of (drop l.piece-index l.others) ++ spec.listed (maybe_piece l.own))) l.state z r
    → FindsAndCarriesOut no_value (spec.preconditions (g.C.Callees.front l.callees) (g.C.Callees.calls l.callees) (map piece_of l.others ++ spec.listed (maybe_piece l.own))) l.fn.state z r
