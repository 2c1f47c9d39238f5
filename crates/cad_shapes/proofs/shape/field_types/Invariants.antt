use Rattle.std.proofs.Common.{◌≡◌, ◌++◌, drop, map}
use Rattle.cad_syntax.specs.Types.{pure_type}
use Rattle.cad_shapes.specs.Views.{pure_field}
use Rattle.cad_shapes.proofs.shape.field_types.Given as goal

abbrev pub invariant-loop-field : goal.invariant-loop-field
invariant-loop-field l = map pure_type l.types ++ map (λ f. f.is) (map pure_field (drop l.field-index l.fields)) ≡ map (λ f. f.is) (map pure_field l.fields)
