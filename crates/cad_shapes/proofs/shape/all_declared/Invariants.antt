use Rattle.std.proofs.Common.{◌≡◌, ◌++◌, drop, map}
use Rattle.cad_types.specs.Declarations.{declaration_of}
use Rattle.cad_values.specs.Shapes.{declaration}
use Rattle.cad_shapes.specs.Views.{pure_shape}
use Rattle.cad_shapes.proofs.shape.all_declared.Given as goal

abbrev pub invariant-loop-shape : goal.invariant-loop-shape
invariant-loop-shape l = map declaration_of l.all.items ++ map declaration (map pure_shape (drop l.shape-index l.shapes)) ≡ map declaration (map pure_shape l.shapes)
