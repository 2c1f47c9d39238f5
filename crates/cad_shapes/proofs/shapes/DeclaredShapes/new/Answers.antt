use Rattle.std.proofs.Common.{◌≡◌, ◌∙◌, ap, map, List}
use Rattle.cad_types.specs.Places.{place_in}
use Rattle.cad_types.specs.Views.{declarations}
use Rattle.cad_values.specs.Shapes.{declaration}
use Rattle.cad_shapes.specs.Views.{pure_shape}
use Rattle.cad_shapes.specs.declared.shape.Shape.{Shape}
use Rattle.cad_shapes.proofs.Told.{same}
use Rattle.cad_shapes.proofs.shapes.DeclaredShapes.new.Goals as goal

pub invariant_of-result : goal.invariant_of-result
invariant_of-result c = record {
  placed = λ id. c.in_ok-places.ensures id ∙ ap (λ (w : List Shape). place_in (map (λ s. s.id) w) id) c.as_slice.ensures.value;
  typed = same (declarations c.in_ok-types.types) (map declaration (map pure_shape c.args.shapes.items)) (c.in_ok-types.ensures ∙ (c.in_ok-declared.ensures ∙ ap (λ (w : List Shape). map declaration (map pure_shape w)) c.as_slice-2.ensures.value));
  named = c.requires.named;
}
