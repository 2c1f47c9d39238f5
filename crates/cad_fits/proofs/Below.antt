-- The order of types as a test.
use Rattle.std.proofs.Common.{◌≡◌, Bool, true, false, List, map, refl, sym, subst}
use Rattle.std.specs.Prelude.{IsTrue, ◌↔◌}
use Rattle.cad_syntax.specs.Types.{PureType}
use Rattle.cad_types.specs.Below.{below}
use Rattle.cad_types.specs.Declarations.{Declaration, IsClosed}
use Rattle.cad_types.specs.Sub.{Sub}
use Rattle.cad_types.specs.Views as types
use Rattle.cad_types.proofs.Decision.{answer_tells}
use Rattle.cad_values.specs.Shapes.{declaration, declarations}
use Rattle.cad_shapes.specs.Held.{shapes_of}
use Rattle.cad_shapes.specs.Views.{pure_shape}
use Rattle.cad_shapes.specs.declared.shapes.DeclaredShapes.{DeclaredShapes}
use Rattle.cad_shapes.proofs.Told.{tells}

both_tell : (P : Type 0) (x y : Bool) → (IsTrue x ↔ P) → (IsTrue y ↔ P) → x ≡ y
both_tell P true true left right = refl
both_tell P true false left right = sym (right.1 (left.0 refl))
both_tell P false true left right = left.1 (right.0 refl)
both_tell P false false left right = refl

closed : (shapes : DeclaredShapes) → IsClosed (declarations (shapes_of shapes))
closed shapes = subst IsClosed (tells (types.declarations shapes.types) (map declaration (map pure_shape shapes.shapes.items)) shapes.typed) shapes.types.closed

pub below_tells : (shapes : DeclaredShapes) (t u : PureType) → (below (declarations (shapes_of shapes)) t u ≡ true) ↔ Sub (declarations (shapes_of shapes)) t u
below_tells shapes t u = answer_tells (declarations (shapes_of shapes)) (below (declarations (shapes_of shapes)) t u) t u (closed shapes) refl

pub is_below_so : (shapes : DeclaredShapes) (b : Bool) (ds : List Declaration) (t u : PureType) → ds ≡ declarations (shapes_of shapes) → (IsTrue b ↔ Sub ds t u) → b ≡ below (declarations (shapes_of shapes)) t u
is_below_so shapes b ds t u same is = both_tell (Sub (declarations (shapes_of shapes)) t u) b (below (declarations (shapes_of shapes)) t u) (subst (λ (w : List Declaration). IsTrue b ↔ Sub w t u) same is) (below_tells shapes t u)
