-- What has to be known of declared types to judge values, and which types are well formed.
use Rattle.std.specs.Prelude.{ℕ, Bool, true, false, not, ◌&&◌, ◌||◌, ◌==◌, List, [], ◌∷◌, Option, Some, None, map, codes, if◌then◌else◌}
use Rattle.std.specs.Cmp.Lexicographic.{pointwise}
use Rattle.std.specs.List.{list_all}
use Rattle.std.specs.Option.{is_some}
use Rattle.cad_syntax.specs.TypeIds.{same_id, has}
use Rattle.cad_syntax.specs.Types.{PureType, basic, optional, array, dictionary, intersection, declared, reference, capability, capability_of}
use Rattle.cad_syntax.specs.declared.kind.Kind.{Kind}
use Rattle.cad_syntax.specs.declared.text.Name.{Name}
use Rattle.cad_syntax.specs.declared.type_id.TypeId.{TypeId}
use Rattle.cad_syntax.specs.declared.types.Authorization.{Authorization}
use Rattle.cad_syntax.specs.declared.types.Authorization.TheVariants as a
use Rattle.cad_syntax.specs.declared.types.Basic.{Basic}
use Rattle.cad_syntax.specs.declared.types.Basic.TheVariants as b
use Rattle.cad_types.specs.Declarations.{Declaration}
use Rattle.cad_types.specs.declared.declared.Sort.{Sort}
use Rattle.cad_types.specs.declared.declared.Sort.TheVariants as s

pub record ShapeField : Type 0 where
  pub name : Name
  pub is : PureType

-- what is declared of one type: its fields in order, the interfaces that it has by linearisation, and of an enum the kind of
-- its raw values and how many cases it has
pub record Shape : Type 0 where
  pub id : TypeId
  pub sort : Sort
  pub fields : List ShapeField
  pub interfaces : List TypeId
  pub raw : Kind
  pub cases : ℕ

-- the declared types, and the entitlements, declared and built in
pub record Shapes : Type 0 where
  pub types : List Shape
  pub entitlements : List TypeId

-- the declaration by which types are ordered
abbrev pub declaration : Shape → Declaration
declaration shape = record { id = shape.id; sort = shape.sort; fields = map (λ f. f.is) shape.fields; interfaces = shape.interfaces }

abbrev pub declarations : Shapes → List Declaration
declarations k = map declaration k.types

-- the first shape of an identifier
abbrev pub shape_in : List Shape → TypeId → Option Shape
shape_in [] id = None
shape_in (shape ∷ shapes) id = if same_id shape.id id then Some shape else shape_in shapes id

abbrev pub shape_of : Shapes → TypeId → Option Shape
shape_of k = shape_in k.types

abbrev pub has_sort : (Sort → Bool) → Option Shape → Bool
has_sort test None = false
has_sort test (Some shape) = test shape.sort

abbrev pub shape_fields : Option Shape → List ShapeField
shape_fields None = []
shape_fields (Some shape) = shape.fields

abbrev pub is_struct_interface : Sort → Bool
is_struct_interface s.StructInterface = true
is_struct_interface _ = false

abbrev pub is_resource_interface : Sort → Bool
is_resource_interface s.ResourceInterface = true
is_resource_interface _ = false

abbrev pub is_enum : Sort → Bool
is_enum s.Enum = true
is_enum _ = false

abbrev pub is_event : Sort → Bool
is_event s.Event = true
is_event _ = false

-- the last name of an identifier is this word
abbrev pub is_last : List ℕ → List Name → Bool
is_last word [] = false
is_last word (n ∷ []) = pointwise ◌==◌ n.0 word
is_last word (n ∷ ns) = is_last word ns

-- a declared type that is no interface, and no event that tells of a resource's destruction
abbrev pub is_named : Shapes → TypeId → Bool
is_named k id = is_some (shape_of k id)
    && not (has_sort (λ sort. is_struct_interface sort || is_resource_interface sort) (shape_of k id))
    && not (has_sort is_event (shape_of k id) && is_last (codes "ResourceDestroyed") id.names)

-- at least one interface, and all of one sort
abbrev pub are_interfaces : Shapes → List TypeId → Bool
are_interfaces k [] = false
are_interfaces k ids = list_all (λ id. has_sort is_struct_interface (shape_of k id)) ids || list_all (λ id. has_sort is_resource_interface (shape_of k id)) ids

abbrev pub are_entitlements : Shapes → Authorization → Bool
are_entitlements k a.Unauthorized = true
are_entitlements k (a.All ids) = list_all (has k.entitlements) ids
are_entitlements k (a.Any ids) = list_all (has k.entitlements) ids

abbrev pub is_key_basic : Basic → Bool
is_key_basic (b.Number kind) = true
is_key_basic b.Bool = true
is_key_basic b.Character = true
is_key_basic b.String = true
is_key_basic b.Path = true
is_key_basic b.StoragePath = true
is_key_basic b.PublicPath = true
is_key_basic b.Meta = true
is_key_basic _ = false

-- the types of the keys of dictionaries: texts, characters, numbers, addresses, Bool, paths, types and enums
abbrev pub is_key_type : Shapes → PureType → Bool
is_key_type k (basic t) = is_key_basic t
is_key_type k (declared id) = has_sort is_enum (shape_of k id)
is_key_type k _ = false

abbrev pub is_reference_type : PureType → Bool
is_reference_type (reference a t) = true
is_reference_type _ = false

-- a type that a program can write: what it names is declared, keys are of types of keys, and what is lent is a reference
abbrev pub is_type : Shapes → PureType → Bool
is_type k (basic t) = true
is_type k (optional t) = is_type k t
is_type k (array t) = is_type k t
is_type k (dictionary p t) = is_key_type k p && is_type k t
is_type k (intersection ids) = are_interfaces k ids
is_type k (declared id) = is_named k id
is_type k (reference authorization t) = are_entitlements k authorization && is_type k t
is_type k capability = true
is_type k (capability_of t) = is_reference_type t && is_type k t
