use Rattle.std.proofs.Common.{◌≡◌, drop, find, map}
use Rattle.cad_function_sources.specs.Sources.{piece_of}
use Rattle.cad_evaluation.specs.Bodies as spec
use Rattle.cad_calls.proofs.functions.first_running.Given as goal

abbrev pub invariant-loop-piece : goal.invariant-loop-piece
invariant-loop-piece l =
    find spec.has_body (map piece_of (drop l.piece-index l.others)) ≡ find spec.has_body (map piece_of l.others)
