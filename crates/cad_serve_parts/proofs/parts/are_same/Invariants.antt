use Rattle.std.proofs.Common.{◌≡◌, map, drop}
use Rattle.std.specs.Cmp.Lexicographic.{pointwise}
use Rattle.cad_world_reading.specs.Passed.{same_source}
use Rattle.cad_serve_parts.specs.Code.Parts.{one_source}
use Rattle.cad_serve_parts.proofs.parts.are_same.Given as goal

abbrev pub invariant-loop-other : goal.invariant-loop-other
invariant-loop-other l = pointwise same_source (map one_source l.left) (map one_source (drop l.other-index l.others)) ≡ pointwise same_source (map one_source l.all) (map one_source l.others)
