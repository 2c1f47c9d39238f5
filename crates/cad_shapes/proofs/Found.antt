-- The first shape of an identifier.
use Rattle.std.proofs.Common.{◌≡◌, Bool, true, false, Option, Some, None, option_map, find, List, [], ◌∷◌, map, refl, cond}
use Rattle.cad_syntax.specs.TypeIds.{same_id}
use Rattle.cad_syntax.specs.declared.type_id.TypeId.{TypeId}
use Rattle.cad_values.specs.Shapes.{shape_in}
use Rattle.cad_shapes.specs.Views.{pure_shape}
use Rattle.cad_shapes.specs.declared.shape.Shape.{Shape}

pub found_first : (ss : List Shape) (id : TypeId) → shape_in (map pure_shape ss) id ≡ option_map pure_shape (find (λ s. same_id s.id id) ss)
found_first [] id = refl
found_first (s ∷ ss) id = go (same_id s.id id) (found_first ss id)
  where
    go : (b : Bool) → shape_in (map pure_shape ss) id ≡ option_map pure_shape (find (λ x. same_id x.id id) ss)
        → cond b (Some (pure_shape s)) (shape_in (map pure_shape ss) id) ≡ option_map pure_shape (cond b (Some s) (find (λ x. same_id x.id id) ss))
    go true rest = refl
    go false rest = rest
