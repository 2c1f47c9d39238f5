use Rattle.std.proofs.Common.{◌≡◌, drop, map}
use Rattle.cad_shapes.specs.Views.{pure_shape, all_names_differ}
use Rattle.cad_shapes.proofs.shape.all_names_differ.Given as goal

abbrev pub invariant-loop-shape : goal.invariant-loop-shape
invariant-loop-shape l = all_names_differ (map pure_shape (drop l.shape-index l.shapes)) ≡ all_names_differ (map pure_shape l.shapes)
