-- Numbers of parts.
use Rattle.std.proofs.Common.{◌≡◌, ◌≢◌, ◌≤◌, suc, Bool, true, false, List, [], ◌∷◌, length, map, refl, ap, arith}
use Rattle.cad_shapes.specs.Views as shape
use Rattle.cad_shapes.specs.declared.shape.ShapeField.{ShapeField}
use Rattle.cad_values.specs.Shapes.{Shape, Shapes, is_enum}
use Rattle.cad_values.specs.Values.{pure_value, pure_entry, pure_field, values_of, entries_of, fields_of, elements, keys}
use Rattle.cad_values.specs.declared.value.Value.{Value}
use Rattle.cad_values.specs.declared.value.DictionaryEntry.{DictionaryEntry}
use Rattle.cad_values.specs.declared.value.CompositeField.{CompositeField}
use Rattle.cad_fits.specs.Tests.{fields_fit, has_case}
use Rattle.std.specs.Prelude.{◌&&◌, not}

pub count_values : (xs : List Value) → length (elements (values_of (map pure_value xs))) ≡ length xs
count_values [] = refl
count_values (x ∷ xs) = ap suc (count_values xs)

pub count_entries : (es : List DictionaryEntry) → length (keys (entries_of (map pure_entry es))) ≡ length es
count_entries [] = refl
count_entries (e ∷ es) = ap suc (count_entries es)

and_never : (a : Bool) → (a && false) ≡ false
and_never true = refl
and_never false = refl

pub differ_fields : (k : Shapes) (ds : List ShapeField) (fs : List CompositeField) → length ds ≢ length fs → fields_fit k (map shape.pure_field ds) (fields_of (map pure_field fs)) ≡ false
differ_fields k [] [] other = absurd (other refl)
differ_fields k [] (f ∷ fs) other = refl
differ_fields k (d ∷ ds) [] other = refl
differ_fields k (d ∷ ds) (f ∷ fs) other = rw (differ_fields k ds fs (λ e. other (ap suc e))) (and_never _)

pub many_case : (shape : Shape) (fs : List CompositeField) → 2 ≤ length fs → has_case shape (fields_of (map pure_field fs)) ≡ not (is_enum shape.sort)
many_case shape [] many = absurd (omega arith)
many_case shape (f ∷ []) many = absurd (omega arith)
many_case shape (f ∷ g ∷ fs) many = refl
