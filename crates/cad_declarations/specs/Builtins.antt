-- What the built-in members take and give, and what a reference needs for them.
use Rattle.std.specs.Prelude.{ℕ, Bool, true, false, ◌&&◌, ◌||◌, Option, Some, None, List, [], ◌∷◌, codes}
use Rattle.std.specs.List.{list_all}
use Rattle.cad_syntax.specs.TypeIds.{has}
use Rattle.cad_syntax.specs.Types.{PureType, basic, optional, array, dictionary, declared, reference, capability, capability_of}
use Rattle.cad_syntax.specs.declared.kind.Kind.TheVariants as k
use Rattle.cad_syntax.specs.declared.type_id.TypeId.{TypeId}
use Rattle.cad_syntax.specs.declared.types.Basic.TheVariants as b
use Rattle.cad_syntax.specs.declared.types.Authorization.{Authorization}
use Rattle.cad_syntax.specs.declared.types.Authorization.TheVariants as a
use Rattle.cad_auth.specs.Grants.{sets}
use Rattle.cad_types.specs.Classes.{fields_in}
use Rattle.cad_types.specs.Declarations.{Declaration, found}
use Rattle.cad_types.specs.declared.builtin.Builtin.{Builtin}
use Rattle.cad_types.specs.declared.builtin.Builtin.TheVariants as m
use Rattle.cad_declarations.specs.Names.{built_in}

-- ---- what is called, and what is view

-- it is read, without arguments behind it
abbrev pub is_read : Builtin → Bool
is_read m.ArrayLength = true
is_read m.DictionaryLength = true
is_read m.DictionaryKeys = true
is_read m.DictionaryValues = true
is_read m.StringLength = true
is_read m.StringUtf8 = true
is_read (m.NumberMin kind) = true
is_read (m.NumberMax kind) = true
is_read m.TypeIdentifier = true
is_read m.EnumRawValue = true
is_read m.AccountAddress = true
is_read m.AccountStorage = true
is_read m.AccountContracts = true
is_read m.AccountCapabilities = true
is_read m.CapabilitiesStorage = true
is_read m.ControllerCapabilityId = true
is_read m.ControllerBorrowType = true
is_read m.ControllerTag = true
is_read m.CapabilityId = true
is_read m.CapabilityAddress = true
is_read m.ResourceUuid = true
is_read m.ResourceOwner = true
is_read m.ContractAccount = true
is_read _ = false

-- it changes something: a container, what an account has, or a controller; no view function calls it
abbrev pub changes : Builtin → Bool
changes m.ArrayAppend = true
changes m.ArrayAppendAll = true
changes m.ArrayInsert = true
changes m.ArrayRemove = true
changes m.ArrayRemoveFirst = true
changes m.ArrayRemoveLast = true
changes m.DictionaryInsert = true
changes m.DictionaryRemove = true
changes m.StorageSave = true
changes m.StorageLoad = true
changes m.ContractsAdd = true
changes m.ContractsUpdate = true
changes m.CapabilitiesPublish = true
changes m.CapabilitiesUnpublish = true
changes m.StorageCapabilitiesIssue = true
changes m.ControllerSetTag = true
changes m.ControllerRetarget = true
changes m.ControllerDelete = true
changes _ = false

-- ---- what a reference needs

-- either of two entitlements, or any one of three
abbrev pub either : List ℕ → List ℕ → Authorization
either first second = a.Any (built_in first ∷ built_in second ∷ [])

abbrev pub any_of_three : List ℕ → List ℕ → List ℕ → Authorization
any_of_three first second third = a.Any (built_in first ∷ built_in second ∷ built_in third ∷ [])

-- what a reference has to grant for a member; an owner has all of it
abbrev pub needed : Builtin → Authorization
needed m.ArrayAppend = either (codes "Mutate") (codes "Insert")
needed m.ArrayAppendAll = either (codes "Mutate") (codes "Insert")
needed m.ArrayInsert = either (codes "Mutate") (codes "Insert")
needed m.ArrayRemove = either (codes "Mutate") (codes "Remove")
needed m.ArrayRemoveFirst = either (codes "Mutate") (codes "Remove")
needed m.ArrayRemoveLast = either (codes "Mutate") (codes "Remove")
needed m.DictionaryInsert = either (codes "Mutate") (codes "Insert")
needed m.DictionaryRemove = either (codes "Mutate") (codes "Remove")
needed m.StorageSave = either (codes "Storage") (codes "SaveValue")
needed m.StorageLoad = either (codes "Storage") (codes "LoadValue")
needed m.StorageCopy = either (codes "Storage") (codes "CopyValue")
needed m.StorageBorrow = either (codes "Storage") (codes "BorrowValue")
needed m.ContractsAdd = either (codes "Contracts") (codes "AddContract")
needed m.ContractsUpdate = either (codes "Contracts") (codes "UpdateContract")
needed m.CapabilitiesPublish = either (codes "Capabilities") (codes "PublishCapability")
needed m.CapabilitiesUnpublish = either (codes "Capabilities") (codes "UnpublishCapability")
needed m.StorageCapabilitiesIssue = any_of_three (codes "Capabilities") (codes "StorageCapabilities") (codes "IssueStorageCapabilityController")
needed m.StorageCapabilitiesGetController = any_of_three (codes "Capabilities") (codes "StorageCapabilities") (codes "GetStorageCapabilityController")
needed _ = a.Unauthorized

-- `Mutate`, or `Insert` and `Remove`
abbrev pub replaces_elements : List TypeId → Bool
replaces_elements set = has set (built_in (codes "Mutate")) || (has set (built_in (codes "Insert")) && has set (built_in (codes "Remove")))

-- a reference with these rights may assign and swap elements
abbrev pub may_replace_elements : Authorization → Bool
may_replace_elements authorization = list_all replaces_elements (sets authorization)

-- a member that is met through a reference alone: those of accounts, of their parts and of controllers
abbrev pub needs_reference : Builtin → Bool
needs_reference m.AccountAddress = true
needs_reference m.AccountStorage = true
needs_reference m.AccountContracts = true
needs_reference m.AccountCapabilities = true
needs_reference m.StorageSave = true
needs_reference m.StorageLoad = true
needs_reference m.StorageCopy = true
needs_reference m.StorageBorrow = true
needs_reference m.StorageCheck = true
needs_reference m.StorageType = true
needs_reference m.ContractsAdd = true
needs_reference m.ContractsUpdate = true
needs_reference m.CapabilitiesGet = true
needs_reference m.CapabilitiesBorrow = true
needs_reference m.CapabilitiesExists = true
needs_reference m.CapabilitiesPublish = true
needs_reference m.CapabilitiesUnpublish = true
needs_reference m.CapabilitiesStorage = true
needs_reference m.StorageCapabilitiesIssue = true
needs_reference m.StorageCapabilitiesGetController = true
needs_reference m.ControllerCapabilityId = true
needs_reference m.ControllerBorrowType = true
needs_reference m.ControllerTag = true
needs_reference m.ControllerSetTag = true
needs_reference m.ControllerTarget = true
needs_reference m.ControllerRetarget = true
needs_reference m.ControllerDelete = true
needs_reference _ = false

-- ---- type arguments

-- what is asked of a type argument
pub data TypeRule : Type 0 where
  -- there is none
  no_type : TypeRule
  any_type : TypeRule
  -- it is storable, and where it isn't written it is the first argument's type
  saved_type : TypeRule
  storable_type : TypeRule
  -- storable, and no resource type
  copied_type : TypeRule
  reference_type : TypeRule

abbrev pub type_rule : Builtin → TypeRule
type_rule m.StorageSave = saved_type
type_rule m.StorageLoad = storable_type
type_rule m.StorageCopy = copied_type
type_rule m.StorageBorrow = reference_type
type_rule m.StorageCheck = any_type
type_rule m.CapabilitiesGet = reference_type
type_rule m.CapabilitiesBorrow = reference_type
type_rule m.StorageCapabilitiesIssue = reference_type
type_rule m.MetaType = any_type
type_rule _ = no_type

-- ---- parameters

abbrev pub int_type : PureType
int_type = basic (b.Number k.Int)

abbrev pub address_type : PureType
address_type = basic (b.Number k.Address)

abbrev pub bytes_type : PureType
bytes_type = array (basic (b.Number k.UInt8))

-- what may stand for a parameter: what fits a type, or any number, which isn't an address
pub data ParameterForm : Type 0 where
  fits : PureType → ParameterForm
  any_number : ParameterForm

-- a parameter; without a label an argument has none either
pub record BuiltinParameter : Type 0 where
  pub label : Option (List ℕ)
  pub form : ParameterForm

abbrev pub plain : PureType → BuiltinParameter
plain type = record { label = None; form = fits type }

abbrev pub labelled : List ℕ → PureType → BuiltinParameter
labelled label type = record { label = Some label; form = fits type }

abbrev pub any_number_parameter : BuiltinParameter
any_number_parameter = record { label = None; form = any_number }

-- the elements of an array
abbrev pub element_of : PureType → PureType
element_of (array t) = t
element_of other = other

-- the keys and the values of a dictionary
abbrev pub key_of : PureType → PureType
key_of (dictionary key value) = key
key_of other = other

abbrev pub value_of : PureType → PureType
value_of (dictionary key value) = value
value_of other = other

abbrev pub first_or : PureType → List PureType → PureType
first_or default [] = default
first_or default (t ∷ more) = t

-- the type of the raw values of an enum
abbrev pub raw_of : List Declaration → PureType → PureType
raw_of d (declared id) = first_or int_type (fields_in (found d id))
raw_of d other = other

-- what a capability lends
abbrev pub lent_by : PureType → PureType
lent_by (capability_of t) = t
lent_by other = other

-- The parameters of a member that is called, by the type on which it stands (of a reference, its target; of a member of a
-- type, that type) and its type argument.
abbrev pub parameters_of : List Declaration → PureType → PureType → Builtin → List BuiltinParameter
parameters_of d on t m.ArrayContains = plain (element_of on) ∷ []
parameters_of d on t m.ArrayFirstIndex = labelled (codes "of") (element_of on) ∷ []
parameters_of d on t m.ArrayConcat = plain on ∷ []
parameters_of d on t m.ArraySlice = labelled (codes "from") int_type ∷ labelled (codes "upTo") int_type ∷ []
parameters_of d on t m.ArrayAppend = plain (element_of on) ∷ []
parameters_of d on t m.ArrayAppendAll = plain on ∷ []
parameters_of d on t m.ArrayInsert = labelled (codes "at") int_type ∷ plain (element_of on) ∷ []
parameters_of d on t m.ArrayRemove = labelled (codes "at") int_type ∷ []
parameters_of d on t m.DictionaryContainsKey = plain (key_of on) ∷ []
parameters_of d on t m.DictionaryInsert = labelled (codes "key") (key_of on) ∷ plain (value_of on) ∷ []
parameters_of d on t m.DictionaryRemove = labelled (codes "key") (key_of on) ∷ []
parameters_of d on t m.StringConcat = plain (basic b.String) ∷ []
parameters_of d on t m.StringSlice = labelled (codes "from") int_type ∷ labelled (codes "upTo") int_type ∷ []
parameters_of d on t m.StringEncodeHex = plain bytes_type ∷ []
parameters_of d on t m.StringFromUtf8 = plain bytes_type ∷ []
parameters_of d on t (m.NumberConvert kind) = any_number_parameter ∷ []
parameters_of d on t (m.NumberFromString kind) = plain (basic b.String) ∷ []
parameters_of d on t m.SaturatingAdd = plain on ∷ []
parameters_of d on t m.SaturatingSubtract = plain on ∷ []
parameters_of d on t m.SaturatingMultiply = plain on ∷ []
parameters_of d on t m.SaturatingDivide = plain on ∷ []
parameters_of d on t m.IsInstance = plain (basic b.Meta) ∷ []
parameters_of d on t m.EnumFromRawValue = labelled (codes "rawValue") (raw_of d on) ∷ []
parameters_of d on t m.StorageSave = plain t ∷ labelled (codes "to") (basic b.StoragePath) ∷ []
parameters_of d on t m.StorageLoad = labelled (codes "from") (basic b.StoragePath) ∷ []
parameters_of d on t m.StorageCopy = labelled (codes "from") (basic b.StoragePath) ∷ []
parameters_of d on t m.StorageBorrow = labelled (codes "from") (basic b.StoragePath) ∷ []
parameters_of d on t m.StorageCheck = labelled (codes "from") (basic b.StoragePath) ∷ []
parameters_of d on t m.StorageType = labelled (codes "at") (basic b.StoragePath) ∷ []
parameters_of d on t m.ContractsAdd = labelled (codes "name") (basic b.String) ∷ labelled (codes "code") bytes_type ∷ []
parameters_of d on t m.ContractsUpdate = labelled (codes "name") (basic b.String) ∷ labelled (codes "code") bytes_type ∷ []
parameters_of d on t m.CapabilitiesGet = plain (basic b.PublicPath) ∷ []
parameters_of d on t m.CapabilitiesBorrow = plain (basic b.PublicPath) ∷ []
parameters_of d on t m.CapabilitiesExists = plain (basic b.PublicPath) ∷ []
parameters_of d on t m.CapabilitiesPublish = plain capability ∷ labelled (codes "at") (basic b.PublicPath) ∷ []
parameters_of d on t m.CapabilitiesUnpublish = plain (basic b.PublicPath) ∷ []
parameters_of d on t m.StorageCapabilitiesIssue = plain (basic b.StoragePath) ∷ []
parameters_of d on t m.StorageCapabilitiesGetController = labelled (codes "byCapabilityID") (basic (b.Number k.UInt64)) ∷ []
parameters_of d on t m.ControllerSetTag = plain (basic b.String) ∷ []
parameters_of d on t m.ControllerRetarget = plain (basic b.StoragePath) ∷ []
parameters_of d on t m.Panic = plain (basic b.String) ∷ []
parameters_of d on t m.Assert = plain (basic b.Bool) ∷ labelled (codes "message") (basic b.String) ∷ []
parameters_of d on t m.Log = plain (basic b.AnyStruct) ∷ []
parameters_of d on t m.GetAccount = plain address_type ∷ []
parameters_of d on t _ = []

-- the last parameter may have no argument
abbrev pub last_may_be_absent : Builtin → Bool
last_may_be_absent m.Assert = true
last_may_be_absent _ = false

-- any further arguments may follow, with any labels, none of a resource type
abbrev pub takes_more : Builtin → Bool
takes_more m.ContractsAdd = true
takes_more _ = false

-- ---- results

-- what an account's contract may do with the account
abbrev pub own_account : PureType
own_account =
    reference (a.All (built_in (codes "Storage") ∷ built_in (codes "Contracts") ∷ built_in (codes "Keys") ∷ built_in (codes "Inbox") ∷ built_in (codes "Capabilities") ∷ []))
    (basic b.Account)

-- The result of a member, by what the reference grants through which it is met, the type on which it stands, and its type
-- argument. The parts of an account carry the account's authorization.
abbrev pub result_of : List Declaration → Authorization → PureType → PureType → Builtin → PureType
result_of d grant on t m.ArrayLength = int_type
result_of d grant on t m.ArrayContains = basic b.Bool
result_of d grant on t m.ArrayFirstIndex = optional int_type
result_of d grant on t m.ArrayConcat = on
result_of d grant on t m.ArraySlice = on
result_of d grant on t m.ArrayReverse = on
result_of d grant on t m.ArrayRemove = element_of on
result_of d grant on t m.ArrayRemoveFirst = element_of on
result_of d grant on t m.ArrayRemoveLast = element_of on
result_of d grant on t m.DictionaryLength = int_type
result_of d grant on t m.DictionaryKeys = array (key_of on)
result_of d grant on t m.DictionaryValues = array (value_of on)
result_of d grant on t m.DictionaryContainsKey = basic b.Bool
result_of d grant on t m.DictionaryInsert = optional (value_of on)
result_of d grant on t m.DictionaryRemove = optional (value_of on)
result_of d grant on t m.StringLength = int_type
result_of d grant on t m.StringUtf8 = bytes_type
result_of d grant on t m.StringConcat = basic b.String
result_of d grant on t m.StringSlice = basic b.String
result_of d grant on t m.StringDecodeHex = bytes_type
result_of d grant on t m.StringEncodeHex = basic b.String
result_of d grant on t m.StringFromUtf8 = optional (basic b.String)
result_of d grant on t m.CharacterToString = basic b.String
result_of d grant on t m.NumberToString = basic b.String
result_of d grant on t (m.NumberConvert kind) = basic (b.Number kind)
result_of d grant on t (m.NumberFromString kind) = optional (basic (b.Number kind))
result_of d grant on t (m.NumberMin kind) = basic (b.Number kind)
result_of d grant on t (m.NumberMax kind) = basic (b.Number kind)
result_of d grant on t m.NumberToBigEndianBytes = bytes_type
result_of d grant on t m.SaturatingAdd = on
result_of d grant on t m.SaturatingSubtract = on
result_of d grant on t m.SaturatingMultiply = on
result_of d grant on t m.SaturatingDivide = on
result_of d grant on t m.AddressToString = basic b.String
result_of d grant on t m.AddressToBytes = bytes_type
result_of d grant on t m.GetType = basic b.Meta
result_of d grant on t m.IsInstance = basic b.Bool
result_of d grant on t m.TypeIdentifier = basic b.String
result_of d grant on t m.EnumRawValue = raw_of d on
result_of d grant on t m.EnumFromRawValue = optional on
result_of d grant on t m.AccountAddress = address_type
result_of d grant on t m.AccountStorage = reference grant (basic b.AccountStorage)
result_of d grant on t m.AccountContracts = reference grant (basic b.AccountContracts)
result_of d grant on t m.AccountCapabilities = reference grant (basic b.AccountCapabilities)
result_of d grant on t m.StorageLoad = optional t
result_of d grant on t m.StorageCopy = optional t
result_of d grant on t m.StorageBorrow = optional t
result_of d grant on t m.StorageCheck = basic b.Bool
result_of d grant on t m.StorageType = optional (basic b.Meta)
result_of d grant on t m.CapabilitiesGet = capability_of t
result_of d grant on t m.CapabilitiesBorrow = optional t
result_of d grant on t m.CapabilitiesExists = basic b.Bool
result_of d grant on t m.CapabilitiesUnpublish = optional capability
result_of d grant on t m.CapabilitiesStorage = reference grant (basic b.AccountStorageCapabilities)
result_of d grant on t m.StorageCapabilitiesIssue = capability_of t
result_of d grant on t m.StorageCapabilitiesGetController = optional (reference a.Unauthorized (basic b.StorageCapabilityController))
result_of d grant on t m.ControllerCapabilityId = basic (b.Number k.UInt64)
result_of d grant on t m.ControllerBorrowType = basic b.Meta
result_of d grant on t m.ControllerTag = basic b.String
result_of d grant on t m.ControllerTarget = basic b.StoragePath
result_of d grant on t m.CapabilityId = basic (b.Number k.UInt64)
result_of d grant on t m.CapabilityAddress = address_type
result_of d grant on t m.CapabilityBorrow = optional (lent_by on)
result_of d grant on t m.CapabilityCheck = basic b.Bool
result_of d grant on t m.ResourceUuid = basic (b.Number k.UInt64)
result_of d grant on t m.ResourceOwner = optional (reference a.Unauthorized (basic b.Account))
result_of d grant on t m.ContractAccount = own_account
result_of d grant on t m.Panic = basic b.Never
result_of d grant on t m.GetAccount = reference a.Unauthorized (basic b.Account)
result_of d grant on t m.MetaType = basic b.Meta
result_of d grant on t _ = basic b.Void
