-- What built-in members are used on, and what they do there.
use Rattle.std.specs.Prelude.{Bool, true, false, ◌||◌, if◌then◌else◌}
use Rattle.cad_num.specs.declared.saturation.Op.TheVariants.{Add, Sub, Mul, Div}
use Rattle.cad_types.specs.declared.builtin.Builtin.{Builtin}
use Rattle.cad_types.specs.declared.builtin.Builtin.TheVariants as m
use Rattle.cad_value_operations.specs.declared.groups.AddressMember.TheVariants as a
use Rattle.cad_value_operations.specs.declared.groups.Called.{Called}
use Rattle.cad_value_operations.specs.declared.groups.Called.TheVariants as c
use Rattle.cad_value_operations.specs.declared.groups.Group.{Group}
use Rattle.cad_value_operations.specs.declared.groups.Group.TheVariants as g
use Rattle.cad_value_operations.specs.declared.groups.NumberMember.TheVariants as n
use Rattle.cad_value_operations.specs.declared.groups.TextMember.TheVariants as t

-- a member of arrays or dictionaries that searches no element
abbrev pub is_container : Builtin → Bool
is_container m.ArrayLength = true
is_container m.ArrayConcat = true
is_container m.ArraySlice = true
is_container m.ArrayReverse = true
is_container m.ArrayAppend = true
is_container m.ArrayAppendAll = true
is_container m.ArrayInsert = true
is_container m.ArrayRemove = true
is_container m.ArrayRemoveFirst = true
is_container m.ArrayRemoveLast = true
is_container m.DictionaryLength = true
is_container m.DictionaryKeys = true
is_container m.DictionaryValues = true
is_container m.DictionaryContainsKey = true
is_container m.DictionaryInsert = true
is_container m.DictionaryRemove = true
is_container _ = false

-- a member of accounts, their storage or their contracts
abbrev pub is_of_account : Builtin → Bool
is_of_account m.AccountAddress = true
is_of_account m.AccountStorage = true
is_of_account m.AccountContracts = true
is_of_account m.AccountCapabilities = true
is_of_account m.StorageSave = true
is_of_account m.StorageLoad = true
is_of_account m.StorageCopy = true
is_of_account m.StorageBorrow = true
is_of_account m.StorageCheck = true
is_of_account m.StorageType = true
is_of_account m.ContractsAdd = true
is_of_account m.ContractsUpdate = true
is_of_account _ = false

-- of capabilities
abbrev pub is_of_capability : Builtin → Bool
is_of_capability m.CapabilitiesGet = true
is_of_capability m.CapabilitiesBorrow = true
is_of_capability m.CapabilitiesExists = true
is_of_capability m.CapabilitiesPublish = true
is_of_capability m.CapabilitiesUnpublish = true
is_of_capability m.CapabilitiesStorage = true
is_of_capability m.StorageCapabilitiesIssue = true
is_of_capability m.StorageCapabilitiesGetController = true
is_of_capability m.CapabilityId = true
is_of_capability m.CapabilityAddress = true
is_of_capability m.CapabilityBorrow = true
is_of_capability m.CapabilityCheck = true
is_of_capability _ = false

-- of controllers of capabilities
abbrev pub is_of_controller : Builtin → Bool
is_of_controller m.ControllerCapabilityId = true
is_of_controller m.ControllerBorrowType = true
is_of_controller m.ControllerTag = true
is_of_controller m.ControllerSetTag = true
is_of_controller m.ControllerTarget = true
is_of_controller m.ControllerRetarget = true
is_of_controller m.ControllerDelete = true
is_of_controller _ = false

abbrev pub is_service : Builtin → Bool
is_service b = is_of_account b || is_of_capability b || is_of_controller b

abbrev pub leaf_group : Builtin → Group
leaf_group m.ArrayContains = g.Search
leaf_group m.ArrayFirstIndex = g.Search
leaf_group m.StringLength = g.Text t.Length
leaf_group m.StringUtf8 = g.Text t.Bytes
leaf_group m.StringConcat = g.Text t.Concat
leaf_group m.StringSlice = g.Text t.Slice
leaf_group m.StringDecodeHex = g.Text t.Decoded
leaf_group m.CharacterToString = g.Character
leaf_group m.NumberToString = g.Number n.Told
leaf_group m.NumberToBigEndianBytes = g.Number n.Bytes
leaf_group m.SaturatingAdd = g.Number (n.Saturated Add)
leaf_group m.SaturatingSubtract = g.Number (n.Saturated Sub)
leaf_group m.SaturatingMultiply = g.Number (n.Saturated Mul)
leaf_group m.SaturatingDivide = g.Number (n.Saturated Div)
leaf_group m.AddressToString = g.Address a.Told
leaf_group m.AddressToBytes = g.Address a.Bytes
leaf_group m.GetType = g.OwnType
leaf_group m.IsInstance = g.Instance
leaf_group m.TypeIdentifier = g.Identifier
leaf_group m.EnumRawValue = g.RawValue
leaf_group m.ResourceUuid = g.Identity
leaf_group m.ResourceOwner = g.Owner
leaf_group m.ContractAccount = g.Account
leaf_group _ = g.Nothing

abbrev pub group : Builtin → Group
group b = if is_container b then g.Container else if is_service b then g.Service else leaf_group b

-- a function, or a member of a type
abbrev pub called : Builtin → Called
called m.StringEncodeHex = c.Encoded
called m.StringFromUtf8 = c.Read
called (m.NumberConvert kind) = c.Converted kind
called (m.NumberFromString kind) = c.Parsed kind
called (m.NumberMin kind) = c.Least kind
called (m.NumberMax kind) = c.Greatest kind
called m.EnumFromRawValue = c.Case
called m.Panic = c.Panic
called m.Assert = c.Assert
called m.Log = c.Log
called m.GetAccount = c.Account
called _ = c.Nothing
