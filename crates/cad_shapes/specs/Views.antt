-- Shapes without where their parts lie in memory.
use Rattle.std.specs.Prelude.{Bool, true, false, not, ◌&&◌, ◌==◌, List, [], ◌∷◌, map, codes}
use Rattle.std.specs.Cmp.Lexicographic.{pointwise}
use Rattle.std.specs.List.{list_all}
use Rattle.cad_syntax.specs.Types.{pure_type}
use Rattle.cad_syntax.specs.declared.text.Name.{Name}
use Rattle.cad_types.specs.declared.declared.Sort.{Sort}
use Rattle.cad_types.specs.declared.declared.Sort.TheVariants as s
use Rattle.cad_values.specs.Shapes as spec
use Rattle.cad_shapes.specs.declared.shape.Shape.{Shape}
use Rattle.cad_shapes.specs.declared.shape.ShapeField.{ShapeField}

abbrev pub pure_field : ShapeField → spec.ShapeField
pure_field f = record { name = f.name; is = pure_type f.is }

abbrev pub pure_shape : Shape → spec.Shape
pure_shape s = record { id = s.id; sort = s.sort; fields = map pure_field s.fields.items; interfaces = s.interfaces; raw = s.raw; cases = s.cases }

abbrev pub same_name : Name → Name → Bool
same_name a b = pointwise ◌==◌ a.0 b.0

-- no two of these fields have one name
abbrev pub names_differ : List spec.ShapeField → Bool
names_differ [] = true
names_differ (f ∷ fields) = list_all (λ other. not (same_name other.name f.name)) fields && names_differ fields

-- no two fields of a type have one name
abbrev pub all_names_differ : List spec.Shape → Bool
all_names_differ shapes = list_all (λ s. names_differ s.fields) shapes

-- whether types of a sort have names that programs write
abbrev pub named_by : Sort → List Name → Bool
named_by s.StructInterface names = false
named_by s.ResourceInterface names = false
named_by s.Event names = not (spec.is_last (codes "ResourceDestroyed") names)
named_by _ names = true
