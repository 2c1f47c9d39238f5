-- What forms ask of the types of their parts.
use Rattle.std.specs.Prelude.{ℕ, zero, suc, Bool, true, false, not, ◌&&◌, ◌||◌, Option, Some, None, List, [], filter, length, map, nat_lt}
use Rattle.std.specs.List.{list_all}
use Rattle.cad_syntax.specs.Kinds.{depth}
use Rattle.cad_syntax.specs.TypeIds.{has}
use Rattle.cad_syntax.specs.Types.{PureType, basic, optional, array, dictionary, intersection, declared, reference, capability, capability_of}
use Rattle.cad_syntax.specs.declared.type_id.TypeId.{TypeId}
use Rattle.cad_syntax.specs.declared.kind.Kind.{Kind}
use Rattle.cad_syntax.specs.declared.kind.Kind.TheVariants as n
use Rattle.cad_syntax.specs.declared.types.Basic.{Basic}
use Rattle.cad_syntax.specs.declared.types.Basic.TheVariants as b
use Rattle.cad_types.specs.Below.{is_never}
use Rattle.cad_types.specs.Classes.{is_storable_basic, is_importable_basic, is_data_sort, is_carried_sort, is_void, has_sort}
use Rattle.cad_types.specs.Declarations.{Declaration, found}
use Rattle.cad_declarations.specs.BuiltinNames.{is_integer, is_primitive_basic}
use Rattle.cad_types.specs.Basics.{same_basic}

abbrev pub never : PureType
never = basic b.Never

abbrev pub bool : PureType
bool = basic b.Bool

abbrev pub void : PureType
void = basic b.Void

abbrev pub number : Kind → PureType
number kind = basic (b.Number kind)

abbrev pub is_never_type : PureType → Bool
is_never_type (basic t) = is_never t
is_never_type _ = false

abbrev pub is_optional_type : PureType → Bool
is_optional_type (optional t) = true
is_optional_type _ = false

-- the content of an optional
abbrev pub content : PureType → Option PureType
content (optional t) = Some t
content _ = None

-- an optional of it, not doubled
abbrev pub optional_once : PureType → PureType
optional_once (optional t) = optional t
optional_once t = optional t

abbrev pub element_type : PureType → Option PureType
element_type (array t) = Some t
element_type _ = None

-- ---- numbers

abbrev pub kind_of_basic : Basic → Option Kind
kind_of_basic (b.Number kind) = Some kind
kind_of_basic _ = None

-- the kind of numbers that a type is, addresses among them
abbrev pub kind_of : PureType → Option Kind
kind_of (basic t) = kind_of_basic t
kind_of _ = None

abbrev pub is_address : Kind → Bool
is_address n.Address = true
is_address _ = false

-- its numbers go below 0
abbrev pub is_signed : Kind → Bool
is_signed kind = nat_lt 0 (depth kind)

abbrev pub of_kind : (Kind → Bool) → PureType → Bool
of_kind test (basic (b.Number kind)) = test kind
of_kind test _ = false

-- a kind of numbers, which an address isn't
abbrev pub is_number_type : PureType → Bool
is_number_type t = of_kind (λ kind. not (is_address kind)) t

abbrev pub is_integer_type : PureType → Bool
is_integer_type t = of_kind is_integer t

abbrev pub is_signed_type : PureType → Bool
is_signed_type t = of_kind is_signed t

-- two basic types are one
abbrev pub is_same_basic : PureType → PureType → Bool
is_same_basic (basic t) (basic u) = same_basic t u
is_same_basic _ _ = false

abbrev pub is_ordered_basic : Basic → Bool
is_ordered_basic (b.Number kind) = not (is_address kind)
is_ordered_basic b.Bool = true
is_ordered_basic b.Character = true
is_ordered_basic b.String = true
is_ordered_basic _ = false

-- `<` is there: numbers but addresses, Bool, Character and String
abbrev pub is_ordered : PureType → Bool
is_ordered (basic t) = is_ordered_basic t
is_ordered _ = false

-- what `*` copies: a primitive, or an array or dictionary of primitives at any depth, without optionals
abbrev pub is_copied : PureType → Bool
is_copied (basic t) = is_primitive_basic t
is_copied (array t) = is_copied t
is_copied (dictionary key value) = is_copied key && is_copied value
is_copied _ = false

-- ---- classes
--
-- A declared type isn't of a class where one of its fields isn't, by as many turns as there are declared types. While a
-- type is judged, the same type met again inside it counts as in the class.

abbrev pub turns : ℕ → (List TypeId → List TypeId) → List TypeId → List TypeId
turns zero turn ids = ids
turns (suc n) turn ids = turns n turn (turn ids)

abbrev pub ids_of : List Declaration → List TypeId
ids_of d = map (λ x. x.id) d

-- the declared types that fail a test, by those that are known to fail
abbrev pub failing : (List TypeId → Declaration → Bool) → List Declaration → List TypeId
failing test d = turns (length d) (λ ids. ids_of (filter (λ x. not (test ids x)) d)) []

-- storable, where these declared types aren't
abbrev pub is_storable_but : List TypeId → PureType → Bool
is_storable_but ids (basic t) = is_storable_basic t
is_storable_but ids (optional t) = is_storable_but ids t
is_storable_but ids (array t) = is_storable_but ids t
is_storable_but ids (dictionary key value) = is_storable_but ids key && is_storable_but ids value
is_storable_but ids (intersection i) = true
is_storable_but ids (declared id) = not (has ids id)
is_storable_but ids (reference a t) = false
is_storable_but ids capability = true
is_storable_but ids (capability_of t) = true

abbrev pub has_storable_fields : List TypeId → Declaration → Bool
has_storable_fields ids x = list_all (is_storable_but ids) x.fields

abbrev pub is_storable : List Declaration → PureType → Bool
is_storable d t = is_storable_but (failing has_storable_fields d) t

-- importable, where these declared types aren't
abbrev pub is_importable_but : List Declaration → List TypeId → PureType → Bool
is_importable_but d ids (basic t) = is_importable_basic t
is_importable_but d ids (optional t) = is_importable_but d ids t
is_importable_but d ids (array t) = is_importable_but d ids t
is_importable_but d ids (dictionary key value) = is_importable_but d ids key && is_importable_but d ids value
is_importable_but d ids (declared id) = has_sort is_data_sort (found d id) && not (has ids id)
is_importable_but d ids _ = false

abbrev pub has_importable_fields : List Declaration → List TypeId → Declaration → Bool
has_importable_fields d ids x = list_all (is_importable_but d ids) x.fields

abbrev pub is_importable : List Declaration → PureType → Bool
is_importable d t = is_importable_but d (failing (has_importable_fields d) d) t

abbrev pub is_carried_but : List Declaration → List TypeId → PureType → Bool
is_carried_but d ids (declared id) = has_sort is_carried_sort (found d id) && not (has ids id)
is_carried_but d ids _ = false

-- exportable, where these resources and events aren't
abbrev pub is_exportable_but : List Declaration → List TypeId → PureType → Bool
is_exportable_but d ids t = is_importable d t || (is_void t || is_carried_but d ids t)

abbrev pub has_exportable_fields : List Declaration → List TypeId → Declaration → Bool
has_exportable_fields d ids x = list_all (is_exportable_but d ids) x.fields

abbrev pub is_exportable : List Declaration → PureType → Bool
is_exportable d t = is_exportable_but d (failing (has_exportable_fields d) d) t
