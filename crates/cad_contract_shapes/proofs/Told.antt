-- What is declared, by shapes and by sorts.
use Rattle.std.proofs.Common.{◌≡◌, ◌++◌, Bool, true, false, List, [], ◌∷◌, map, Option, Some, None, refl, ap, ◌∙◌, subst}
use Rattle.std.specs.Prelude.{Result, Ok, Err, IfOk, filter_map, option_map, option_to_list, if◌then◌else◌}
use Rattle.std.specs.List.{cons_option}
use Rattle.cad_syntax.specs.TypeIds.{same_id, has}
use Rattle.cad_syntax.specs.Types.{PureType}
use Rattle.cad_syntax.specs.declared.kind.Kind.{Kind}
use Rattle.cad_syntax.specs.declared.text.Name.{Name}
use Rattle.cad_syntax.specs.declared.type_id.TypeId.{TypeId}
use Rattle.cad_declarations.specs.Kinds.{declaration_of, field_type, raw_type}
use Rattle.cad_declarations.specs.Tables.{MemberEntry, TypeEntry, ProgramTables}
use Rattle.cad_types.specs.Declarations.{Declaration, IsClosed, found, interfaces_in, interfaces_of}
use Rattle.cad_values.specs.Shapes.{Shape, ShapeField, Shapes, declaration}
use Rattle.cad_shapes.specs.Held.{shapes_of}
use Rattle.cad_shapes.specs.Views.{all_names_differ}
use Rattle.cad_shapes.specs.declared.shapes.DeclaredShapes.{DeclaredShapes}
use Rattle.cad_world.specs.Shapes.{raw_field, shape_field, shape_of_entry}
use Rattle.cad_contract_shapes.specs.Arguments.{argument_shapes, HasDistinctFields}
use Rattle.cad_contract_shapes.specs.Sorts.{sort_of_entry}

-- ---- a shape is declared as its entry is

abbrev type_in : ShapeField → PureType
type_in f = f.is

abbrev field_as : Name → PureType → ShapeField
field_as name type = record { name = name; is = type }

raw_told : (o : Option Kind) → map type_in (map raw_field (option_to_list o)) ≡ map raw_type (option_to_list o)
raw_told None = refl
raw_told (Some kind) = refl

one_told : (name : Name) (o : Option PureType) (fields rest : List ShapeField) (types more : List PureType) → map type_in (fields ++ rest) ≡ types ++ more
    → map type_in (cons_option (option_map (field_as name) o) fields ++ rest) ≡ cons_option o types ++ more
one_told name None fields rest types more e = e
one_told name (Some type) fields rest types more e = ap (λ (ts : List PureType). type ∷ ts) e

fields_told : (members : List MemberEntry) (o : Option Kind)
    → map type_in (filter_map shape_field members ++ map raw_field (option_to_list o)) ≡ filter_map (λ m. field_type m.form) members ++ map raw_type (option_to_list o)
fields_told [] o = raw_told o
fields_told (m ∷ members) o =
    one_told m.name (field_type m.form) (filter_map shape_field members) (map raw_field (option_to_list o)) (filter_map (λ x. field_type x.form) members) (map raw_type (option_to_list o))
    (fields_told members o)

declared_so : (entry : TypeEntry) → declaration (shape_of_entry entry) ≡ declaration_of entry
declared_so entry = λ i. record { id = entry.id; sort = entry.sort; fields = fields_told entry.members entry.raw i; interfaces = entry.interfaces }

pub all_declared_so : (entries : List TypeEntry) → map declaration (map shape_of_entry entries) ≡ map declaration_of entries
all_declared_so [] = refl
all_declared_so (entry ∷ entries) = let head = declared_so entry in let tail = all_declared_so entries in cc

-- ---- without interfaces

by_test : (b : Bool) (d : Declaration) (o : Option Declaration) → d.interfaces ≡ [] → interfaces_in o ≡ [] → interfaces_in (if b then Some d else o) ≡ []
by_test true d o own other = own
by_test false d o own other = other

no_interfaces : (entries : List TypeEntry) (id : TypeId) → interfaces_of (map sort_of_entry entries) id ≡ []
no_interfaces [] id = refl
no_interfaces (entry ∷ entries) id = by_test (same_id entry.id id) (sort_of_entry entry) (found (map sort_of_entry entries) id) refl (no_interfaces entries id)

none_has : (ids : List TypeId) (id : TypeId) → ids ≡ [] → has ids id ≡ true → ⊥
none_has [] id e h = absurd cc
none_has (x ∷ ids) id e h = absurd cc

pub sorts_closed : (entries : List TypeEntry) → IsClosed (map sort_of_entry entries)
sorts_closed entries i j m h k = absurd (none_has (interfaces_of (map sort_of_entry entries) i) j (no_interfaces entries i) h)

-- ---- the shapes that are held

abbrev shapes_with : List Shape → List TypeId → Shapes
shapes_with types ids = record { types = types; entitlements = ids }

-- shapes of other parts that are the same
pub held_so : {E : Type 0} (r : Result DeclaredShapes E) (types : List Shape) (ids : List TypeId) (k : Shapes) → types ≡ k.types → ids ≡ k.entitlements
    → IfOk r (λ it. shapes_of it ≡ shapes_with types ids) → IfOk r (λ it. shapes_of it ≡ k)
held_so (Ok it) types ids k e f h = h ∙ (λ i. record { types = e i; entitlements = f i })
held_so (Err error) types ids k e f h = tt

pub distinct_so : {E : Type 0} (r : Result DeclaredShapes E) (tables : ProgramTables) → IfOk r (λ it. shapes_of it ≡ argument_shapes tables) → IfOk r (λ it. HasDistinctFields tables)
distinct_so (Ok it) tables e = subst (λ (k : Shapes). all_names_differ k.types ≡ true) e it.named
distinct_so (Err error) tables e = tt
