-- Which built-in members a type has.
use Rattle.std.specs.Prelude.{ℕ, Bool, true, false, ◌&&◌, ◌||◌, Option, Some, None, List, [], ◌∷◌, ◌++◌, codes, find, option_map, if◌then◌else◌}
use Rattle.std.specs.List.{list_any}
use Rattle.cad_syntax.specs.Types.{PureType, basic, optional, array, dictionary, intersection, declared, reference, capability, capability_of}
use Rattle.cad_syntax.specs.declared.text.Name.{Name}
use Rattle.cad_syntax.specs.declared.kind.Kind.{Kind}
use Rattle.cad_syntax.specs.declared.kind.Kind.TheVariants as k
use Rattle.cad_syntax.specs.declared.types.Basic.{Basic}
use Rattle.cad_syntax.specs.declared.types.Basic.TheVariants as b
use Rattle.cad_types.specs.Classes.{has_sort}
use Rattle.cad_types.specs.Declarations.{Declaration, found, is_resource_id, resource}
use Rattle.cad_types.specs.declared.declared.Sort.{Sort}
use Rattle.cad_types.specs.declared.declared.Sort.TheVariants as s
use Rattle.cad_types.specs.declared.builtin.Builtin.{Builtin}
use Rattle.cad_types.specs.declared.builtin.Builtin.TheVariants as m
use Rattle.cad_declarations.specs.Formed.{is_enum_sort}
use Rattle.cad_declarations.specs.Names.{is_spelled}

-- a built-in member and its name
pub record MemberName : Type 0 where
  pub text : List ℕ
  pub member : Builtin

abbrev pub member_named : List ℕ → Builtin → MemberName
member_named text member = record { text = text; member = member }

-- the first member with this name
abbrev pub member_among : List MemberName → Name → Option Builtin
member_among names name = option_map (λ n. n.member) (find (λ n. is_spelled n.text name) names)

-- ---- what is asked of the types inside

-- numbers, addresses, Bool, texts and paths
abbrev pub is_primitive_basic : Basic → Bool
is_primitive_basic (b.Number kind) = true
is_primitive_basic b.Bool = true
is_primitive_basic b.Character = true
is_primitive_basic b.String = true
is_primitive_basic b.Path = true
is_primitive_basic b.StoragePath = true
is_primitive_basic b.PublicPath = true
is_primitive_basic _ = false

abbrev pub is_meta : Basic → Bool
is_meta b.Meta = true
is_meta _ = false

-- `==` is there: primitives, types and enums, and optionals, arrays and dictionaries of these
abbrev pub is_comparable : List Declaration → PureType → Bool
is_comparable d (basic t) = is_primitive_basic t || is_meta t
is_comparable d (optional t) = is_comparable d t
is_comparable d (array t) = is_comparable d t
is_comparable d (dictionary key value) = is_comparable d key && is_comparable d value
is_comparable d (declared id) = has_sort is_enum_sort (found d id)
is_comparable d _ = false

-- a kind of integers
abbrev pub is_integer : Kind → Bool
is_integer k.Fix64 = false
is_integer k.UFix64 = false
is_integer k.Address = false
is_integer _ = true

-- an integer of a fixed number of bits
abbrev pub is_sized : Kind → Bool
is_sized k.Int = false
is_sized k.UInt = false
is_sized kind = is_integer kind

-- ---- members of values

abbrev pub any_members : List MemberName
any_members = member_named (codes "getType") m.GetType ∷ member_named (codes "isInstance") m.IsInstance ∷ []

-- those that copy elements, or take a copy of them
abbrev pub copying_array_members : List MemberName
copying_array_members =
    member_named (codes "concat") m.ArrayConcat ∷ member_named (codes "slice") m.ArraySlice
    ∷ member_named (codes "reverse") m.ArrayReverse ∷ member_named (codes "appendAll") m.ArrayAppendAll ∷ []

abbrev pub comparing_array_members : List MemberName
comparing_array_members =
    member_named (codes "contains") m.ArrayContains ∷ member_named (codes "firstIndex") m.ArrayFirstIndex ∷ []

abbrev pub array_members : List Declaration → PureType → List MemberName
array_members d element =
    member_named (codes "length") m.ArrayLength ∷ member_named (codes "append") m.ArrayAppend
    ∷ member_named (codes "insert") m.ArrayInsert ∷ member_named (codes "remove") m.ArrayRemove
    ∷ member_named (codes "removeFirst") m.ArrayRemoveFirst ∷ member_named (codes "removeLast") m.ArrayRemoveLast ∷ []
    ++ (if resource d element then [] else copying_array_members)
    ++ (if is_comparable d element then comparing_array_members else [])

abbrev pub dictionary_members : List Declaration → PureType → List MemberName
dictionary_members d value =
    member_named (codes "length") m.DictionaryLength ∷ member_named (codes "keys") m.DictionaryKeys
    ∷ member_named (codes "containsKey") m.DictionaryContainsKey ∷ member_named (codes "insert") m.DictionaryInsert
    ∷ member_named (codes "remove") m.DictionaryRemove ∷ []
    ++ (if resource d value then [] else member_named (codes "values") m.DictionaryValues ∷ [])

abbrev pub string_members : List MemberName
string_members =
    member_named (codes "length") m.StringLength ∷ member_named (codes "utf8") m.StringUtf8
    ∷ member_named (codes "concat") m.StringConcat ∷ member_named (codes "slice") m.StringSlice
    ∷ member_named (codes "decodeHex") m.StringDecodeHex ∷ []

abbrev pub saturating_subtract : List MemberName
saturating_subtract = member_named (codes "saturatingSubtract") m.SaturatingSubtract ∷ []

abbrev pub three_saturating : List MemberName
three_saturating =
    member_named (codes "saturatingAdd") m.SaturatingAdd ∷ member_named (codes "saturatingMultiply") m.SaturatingMultiply
    ∷ saturating_subtract

abbrev pub four_saturating : List MemberName
four_saturating = member_named (codes "saturatingDivide") m.SaturatingDivide ∷ three_saturating

abbrev pub saturating_members : Kind → List MemberName
saturating_members k.Int8 = four_saturating
saturating_members k.Int16 = four_saturating
saturating_members k.Int32 = four_saturating
saturating_members k.Int64 = four_saturating
saturating_members k.Int128 = four_saturating
saturating_members k.Fix64 = four_saturating
saturating_members k.UInt8 = three_saturating
saturating_members k.UInt16 = three_saturating
saturating_members k.UInt32 = three_saturating
saturating_members k.UInt64 = three_saturating
saturating_members k.UInt128 = three_saturating
saturating_members k.UFix64 = three_saturating
saturating_members k.UInt = saturating_subtract
saturating_members _ = []

abbrev pub address_members : List MemberName
address_members = member_named (codes "toString") m.AddressToString ∷ member_named (codes "toBytes") m.AddressToBytes ∷ []

abbrev pub number_members : Kind → List MemberName
number_members k.Address = address_members
number_members kind =
    member_named (codes "toString") m.NumberToString ∷ []
    ++ (if is_sized kind then member_named (codes "toBigEndianBytes") m.NumberToBigEndianBytes ∷ [] else [])
    ++ saturating_members kind

abbrev pub account_members : List MemberName
account_members =
    member_named (codes "address") m.AccountAddress ∷ member_named (codes "storage") m.AccountStorage
    ∷ member_named (codes "contracts") m.AccountContracts ∷ member_named (codes "capabilities") m.AccountCapabilities ∷ []

abbrev pub storage_members : List MemberName
storage_members =
    member_named (codes "save") m.StorageSave ∷ member_named (codes "load") m.StorageLoad
    ∷ member_named (codes "copy") m.StorageCopy ∷ member_named (codes "borrow") m.StorageBorrow
    ∷ member_named (codes "check") m.StorageCheck ∷ member_named (codes "type") m.StorageType ∷ []

abbrev pub contracts_members : List MemberName
contracts_members = member_named (codes "add") m.ContractsAdd ∷ []

abbrev pub capabilities_members : List MemberName
capabilities_members =
    member_named (codes "get") m.CapabilitiesGet ∷ member_named (codes "borrow") m.CapabilitiesBorrow
    ∷ member_named (codes "exists") m.CapabilitiesExists ∷ member_named (codes "publish") m.CapabilitiesPublish
    ∷ member_named (codes "unpublish") m.CapabilitiesUnpublish ∷ member_named (codes "storage") m.CapabilitiesStorage ∷ []

abbrev pub storage_capabilities_members : List MemberName
storage_capabilities_members =
    member_named (codes "issue") m.StorageCapabilitiesIssue
    ∷ member_named (codes "getController") m.StorageCapabilitiesGetController ∷ []

abbrev pub controller_members : List MemberName
controller_members =
    member_named (codes "capabilityID") m.ControllerCapabilityId ∷ member_named (codes "borrowType") m.ControllerBorrowType
    ∷ member_named (codes "tag") m.ControllerTag ∷ member_named (codes "setTag") m.ControllerSetTag
    ∷ member_named (codes "target") m.ControllerTarget ∷ member_named (codes "retarget") m.ControllerRetarget
    ∷ member_named (codes "delete") m.ControllerDelete ∷ []

abbrev pub basic_members : Basic → List MemberName
basic_members (b.Number kind) = number_members kind
basic_members b.Character = member_named (codes "toString") m.CharacterToString ∷ []
basic_members b.String = string_members
basic_members b.Meta = member_named (codes "identifier") m.TypeIdentifier ∷ []
basic_members b.Account = account_members
basic_members b.AccountStorage = storage_members
basic_members b.AccountContracts = contracts_members
basic_members b.AccountCapabilities = capabilities_members
basic_members b.AccountStorageCapabilities = storage_capabilities_members
basic_members b.StorageCapabilityController = controller_members
basic_members _ = []

abbrev pub capability_members : List MemberName
capability_members = member_named (codes "id") m.CapabilityId ∷ member_named (codes "address") m.CapabilityAddress ∷ []

abbrev pub lending_members : List MemberName
lending_members = member_named (codes "borrow") m.CapabilityBorrow ∷ member_named (codes "check") m.CapabilityCheck ∷ []

abbrev pub resource_members : List MemberName
resource_members = member_named (codes "uuid") m.ResourceUuid ∷ member_named (codes "owner") m.ResourceOwner ∷ []

-- `account` of a contract is there inside that contract alone
abbrev pub sort_members : Sort → List MemberName
sort_members s.Resource = resource_members
sort_members s.ResourceInterface = resource_members
sort_members s.Contract = member_named (codes "account") m.ContractAccount ∷ []
sort_members s.Enum = member_named (codes "rawValue") m.EnumRawValue ∷ []
sort_members _ = []

abbrev pub declared_members : Option Declaration → List MemberName
declared_members None = []
declared_members (Some d) = sort_members d.sort

-- the built-in members of the values of a type, but for those that all values have
abbrev pub own_members : List Declaration → PureType → List MemberName
own_members d (basic t) = basic_members t
own_members d (array t) = array_members d t
own_members d (dictionary key value) = dictionary_members d value
own_members d (intersection ids) = if list_any (is_resource_id d) ids then resource_members else []
own_members d (declared id) = declared_members (found d id)
own_members d capability = capability_members
own_members d (capability_of t) = capability_members ++ lending_members
own_members d (optional t) = []
own_members d (reference a t) = []

-- A built-in member of the values of a type. Through a reference the members of its target are met.
abbrev pub builtin_member : List Declaration → PureType → Name → Option Builtin
builtin_member d t name = member_among (own_members d t ++ any_members) name

-- ---- members of types, and functions

-- Int has no least and no greatest number, and UInt no greatest
abbrev pub limit_members : Kind → List MemberName
limit_members k.Int = []
limit_members k.UInt = member_named (codes "min") (m.NumberMin k.UInt) ∷ []
limit_members kind = member_named (codes "min") (m.NumberMin kind) ∷ member_named (codes "max") (m.NumberMax kind) ∷ []

abbrev pub kind_members : Kind → List MemberName
kind_members k.Address = []
kind_members kind = member_named (codes "fromString") (m.NumberFromString kind) ∷ limit_members kind

abbrev pub members_of_type : PureType → List MemberName
members_of_type (basic (b.Number kind)) = kind_members kind
members_of_type (basic b.String) = member_named (codes "encodeHex") m.StringEncodeHex ∷ member_named (codes "fromUTF8") m.StringFromUtf8 ∷ []
members_of_type _ = []

-- a built-in member of a type itself: `UInt8.max`, `String.encodeHex`
abbrev pub builtin_member_of_type : PureType → Name → Option Builtin
builtin_member_of_type t name = member_among (members_of_type t) name

abbrev pub kind_conversion : Kind → Option Builtin
kind_conversion k.Address = None
kind_conversion kind = Some (m.NumberConvert kind)

-- a type that is called: `UInt8(n)`, `E(rawValue: r)`
abbrev pub builtin_call_of_type : List Declaration → PureType → Option Builtin
builtin_call_of_type d (basic (b.Number kind)) = kind_conversion kind
builtin_call_of_type d (declared id) = if has_sort is_enum_sort (found d id) then Some m.EnumFromRawValue else None
builtin_call_of_type d _ = None

abbrev pub function_names : List MemberName
function_names =
    member_named (codes "panic") m.Panic ∷ member_named (codes "assert") m.Assert ∷ member_named (codes "log") m.Log
    ∷ member_named (codes "getAccount") m.GetAccount ∷ member_named (codes "Type") m.MetaType ∷ []

-- a built-in function
abbrev pub builtin_function : Name → Option Builtin
builtin_function name = member_among function_names name
