-- What a `DeclaredShapes` holds.
use Rattle.std.specs.Prelude.{map}
use Rattle.cad_values.specs.Shapes.{Shapes}
use Rattle.cad_shapes.specs.Views.{pure_shape}
use Rattle.cad_shapes.specs.declared.shapes.DeclaredShapes.{DeclaredShapes}

abbrev pub shapes_of : DeclaredShapes → Shapes
shapes_of d = record { types = map pure_shape d.shapes.items; entitlements = d.entitlements }
