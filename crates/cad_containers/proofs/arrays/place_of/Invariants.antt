use Rattle.std.proofs.Common.{◌≡◌, drop}
use Rattle.cad_evaluation.specs.Containers.{equal_place}
use Rattle.cad_rows.specs.Views.{pure_row, pure_tree}
use Rattle.cad_world.specs.Trees.{value_of}
use Rattle.cad_containers.proofs.arrays.place_of.Given as goal

abbrev pub invariant-loop-i : goal.invariant-loop-i
invariant-loop-i l = equal_place (value_of (pure_tree l.value)) l.i (pure_row (drop l.i l.parts)) ≡ equal_place (value_of (pure_tree l.value)) 0 (pure_row l.parts)
