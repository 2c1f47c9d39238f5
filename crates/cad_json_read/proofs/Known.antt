-- What is known of the declared types.
use Rattle.std.proofs.Common.{◌≡◌, Bool, true, false, List, [], ◌∷◌, map, Option, Some, None, refl, sym, ap, ◌∙◌, subst}
use Rattle.std.specs.Prelude.{◌↔◌, cond}
use Rattle.std.specs.List.{list_all}
use Rattle.std.proofs.lemmas.Bool.{and_parts}
use Rattle.cad_syntax.specs.TypeIds.{same_id}
use Rattle.cad_syntax.specs.Types.{declared}
use Rattle.cad_syntax.specs.declared.type_id.TypeId.{TypeId}
use Rattle.cad_types.specs.Classes.{Importable}
use Rattle.cad_types.specs.Declarations.{Declaration}
use Rattle.cad_types.specs.Views as types
use Rattle.cad_values.specs.Shapes.{Shape, Shapes, declaration, declarations, shape_of, shape_in}
use Rattle.cad_shapes.specs.Held.{shapes_of}
use Rattle.cad_shapes.specs.Views.{names_differ, all_names_differ, pure_shape}
use Rattle.cad_shapes.specs.declared.shapes.DeclaredShapes.{DeclaredShapes}
use Rattle.cad_shapes.proofs.Told.{tells}
use Rattle.cad_json_read.specs.Judged.{known_of, is_importable_in}
use Rattle.cad_json_read.specs.Reading.{Known}
use Rattle.cad_json_read.proofs.Identifiers.{importable_tells_so}

pub record Good (k : Known) : Type 0 where
  pub tied : (id : TypeId) → (k.importable id ≡ true) ↔ Importable (declarations k.shapes) (declared id)
  pub named : (id : TypeId) (shape : Shape) → shape_of k.shapes id ≡ Some shape → names_differ shape.fields ≡ true

-- what is asked where what the relation reads is read: no argument that can be had is missed, and the names of a type's fields differ
pub record Enough (k : Known) : Type 0 where
  pub allowed : (id : TypeId) → Importable (declarations k.shapes) (declared id) → k.importable id ≡ true
  pub named : (id : TypeId) (shape : Shape) → shape_of k.shapes id ≡ Some shape → names_differ shape.fields ≡ true

pub enough : (k : Known) → Good k → Enough k
enough k good = record { allowed = λ id. (good.tied id).1; named = good.named }

pub named_in : (shapes : List Shape) (id : TypeId) (shape : Shape) → all_names_differ shapes ≡ true → shape_in shapes id ≡ Some shape → names_differ shape.fields ≡ true
named_in [] id shape all e = absurd cc
named_in (s ∷ shapes) id shape all e =
    let parts = and_parts (names_differ s.fields) (all_names_differ shapes) all in
    go (same_id s.id id) e parts.0 (named_in shapes id shape parts.1)
  where
    go : (b : Bool) → cond b (Some s) (shape_in shapes id) ≡ Some shape → names_differ s.fields ≡ true → (shape_in shapes id ≡ Some shape → names_differ shape.fields ≡ true) → names_differ shape.fields ≡ true
    go true h own rest = let is : s ≡ shape = cc in subst (λ (w : Shape). names_differ w.fields ≡ true) is own
    go false h own rest = rest h

pub good : (shapes : DeclaredShapes) → Good (known_of shapes)
good shapes = record {
  tied = λ id. subst (λ (ds : List Declaration). (is_importable_in shapes.types (declared id) ≡ true) ↔ Importable ds (declared id)) (tells (types.declarations shapes.types) (map declaration (map pure_shape shapes.shapes.items)) shapes.typed) (importable_tells_so shapes.types (declared id));
  named = λ id shape e. named_in (map pure_shape shapes.shapes.items) id shape shapes.named e;
}
