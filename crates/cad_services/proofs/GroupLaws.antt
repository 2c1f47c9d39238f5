-- Built-in members are told by their groups.
use Rattle.std.proofs.Common.{◌≡◌, List, [], ◌∷◌, Option, Some, None, refl}
use Rattle.cad_evaluation.specs.Accounts.{account_in_value}
use Rattle.cad_evaluation.specs.Arguments.{with_type_argument}
use Rattle.cad_evaluation.specs.Callees.{Calls, Front}
use Rattle.cad_evaluation.specs.Services.{service}
use Rattle.cad_evaluation.specs.Texts.{in_tree}
use Rattle.cad_services.specs.Code.Groups.{group}
use Rattle.cad_services.specs.Code.Services.{by_group, lent_member, one_type, stored_member}
use Rattle.cad_services.specs.declared.groups.LentMember.TheVariants as l
use Rattle.cad_services.specs.declared.groups.StoredMember.TheVariants as t
use Rattle.cad_syntax.specs.Types.{PureType}
use Rattle.cad_syntax.specs.declared.address.Address.{Address}
use Rattle.cad_syntax.specs.declared.types.Basic.TheVariants as b
use Rattle.cad_types.specs.declared.builtin.Builtin.{Builtin}
use Rattle.cad_types.specs.declared.builtin.Builtin.TheVariants as m
use Rattle.cad_world.specs.Receivers.{Spot}
use Rattle.cad_world.specs.Rows.{Row, Tree}
use Rattle.cad_world.specs.State.{Action, State, with_some}

-- the address may be asked for before the type
address_first : (types : List PureType) (o : Option Address) (f : PureType → Row → Address → Action Tree) (r : Row) (s : State)
    → with_type_argument types (λ t. with_some o (f t r)) s ≡ with_some o (λ a. with_some (one_type types) (λ t. f t r a)) s
address_first [] (Some a) f r s = refl
address_first [] None f r s = refl
address_first (t ∷ []) (Some a) f r s = refl
address_first (t ∷ []) None f r s = refl
address_first (t ∷ u ∷ ts) (Some a) f r s = refl
address_first (t ∷ u ∷ ts) None f r s = refl

pub service_by_group : (front : Front) (calls : Calls) (b : Builtin) (types : List PureType) (spot : Spot) (r : Row) (s : State)
    → service front calls b types spot r s ≡ by_group front calls b types spot r (group b) s
service_by_group front calls m.ArrayLength types spot r s = refl
service_by_group front calls m.ArrayContains types spot r s = refl
service_by_group front calls m.ArrayFirstIndex types spot r s = refl
service_by_group front calls m.ArrayConcat types spot r s = refl
service_by_group front calls m.ArraySlice types spot r s = refl
service_by_group front calls m.ArrayReverse types spot r s = refl
service_by_group front calls m.ArrayAppend types spot r s = refl
service_by_group front calls m.ArrayAppendAll types spot r s = refl
service_by_group front calls m.ArrayInsert types spot r s = refl
service_by_group front calls m.ArrayRemove types spot r s = refl
service_by_group front calls m.ArrayRemoveFirst types spot r s = refl
service_by_group front calls m.ArrayRemoveLast types spot r s = refl
service_by_group front calls m.DictionaryLength types spot r s = refl
service_by_group front calls m.DictionaryKeys types spot r s = refl
service_by_group front calls m.DictionaryValues types spot r s = refl
service_by_group front calls m.DictionaryContainsKey types spot r s = refl
service_by_group front calls m.DictionaryInsert types spot r s = refl
service_by_group front calls m.DictionaryRemove types spot r s = refl
service_by_group front calls m.StringLength types spot r s = refl
service_by_group front calls m.StringUtf8 types spot r s = refl
service_by_group front calls m.StringConcat types spot r s = refl
service_by_group front calls m.StringSlice types spot r s = refl
service_by_group front calls m.StringDecodeHex types spot r s = refl
service_by_group front calls m.StringEncodeHex types spot r s = refl
service_by_group front calls m.StringFromUtf8 types spot r s = refl
service_by_group front calls m.CharacterToString types spot r s = refl
service_by_group front calls m.NumberToString types spot r s = refl
service_by_group front calls (m.NumberConvert kind) types spot r s = refl
service_by_group front calls (m.NumberFromString kind) types spot r s = refl
service_by_group front calls (m.NumberMin kind) types spot r s = refl
service_by_group front calls (m.NumberMax kind) types spot r s = refl
service_by_group front calls m.NumberToBigEndianBytes types spot r s = refl
service_by_group front calls m.SaturatingAdd types spot r s = refl
service_by_group front calls m.SaturatingSubtract types spot r s = refl
service_by_group front calls m.SaturatingMultiply types spot r s = refl
service_by_group front calls m.SaturatingDivide types spot r s = refl
service_by_group front calls m.AddressToString types spot r s = refl
service_by_group front calls m.AddressToBytes types spot r s = refl
service_by_group front calls m.GetType types spot r s = refl
service_by_group front calls m.IsInstance types spot r s = refl
service_by_group front calls m.TypeIdentifier types spot r s = refl
service_by_group front calls m.EnumRawValue types spot r s = refl
service_by_group front calls m.EnumFromRawValue types spot r s = refl
service_by_group front calls m.AccountAddress types spot r s = refl
service_by_group front calls m.AccountStorage types spot r s = refl
service_by_group front calls m.AccountContracts types spot r s = refl
service_by_group front calls m.AccountCapabilities types spot r s = refl
service_by_group front calls m.StorageSave types spot r s = refl
service_by_group front calls m.StorageLoad types spot r s = address_first types (in_tree (account_in_value b.AccountStorage) spot.tree) (stored_member t.Load) r s
service_by_group front calls m.StorageCopy types spot r s = address_first types (in_tree (account_in_value b.AccountStorage) spot.tree) (stored_member t.Copy) r s
service_by_group front calls m.StorageBorrow types spot r s = address_first types (in_tree (account_in_value b.AccountStorage) spot.tree) (stored_member t.Borrow) r s
service_by_group front calls m.StorageCheck types spot r s = address_first types (in_tree (account_in_value b.AccountStorage) spot.tree) (stored_member t.Check) r s
service_by_group front calls m.StorageType types spot r s = refl
service_by_group front calls m.ContractsAdd types spot r s = refl
service_by_group front calls m.ContractsUpdate types spot r s = refl
service_by_group front calls m.CapabilitiesGet types spot r s = address_first types (in_tree (account_in_value b.AccountCapabilities) spot.tree) (lent_member l.Get) r s
service_by_group front calls m.CapabilitiesBorrow types spot r s = address_first types (in_tree (account_in_value b.AccountCapabilities) spot.tree) (lent_member l.Borrow) r s
service_by_group front calls m.CapabilitiesExists types spot r s = refl
service_by_group front calls m.CapabilitiesPublish types spot r s = refl
service_by_group front calls m.CapabilitiesUnpublish types spot r s = refl
service_by_group front calls m.CapabilitiesStorage types spot r s = refl
service_by_group front calls m.StorageCapabilitiesIssue types spot r s = address_first types (in_tree (account_in_value b.AccountStorageCapabilities) spot.tree) (lent_member l.Issue) r s
service_by_group front calls m.StorageCapabilitiesGetController types spot r s = refl
service_by_group front calls m.ControllerCapabilityId types spot r s = refl
service_by_group front calls m.ControllerBorrowType types spot r s = refl
service_by_group front calls m.ControllerTag types spot r s = refl
service_by_group front calls m.ControllerSetTag types spot r s = refl
service_by_group front calls m.ControllerTarget types spot r s = refl
service_by_group front calls m.ControllerRetarget types spot r s = refl
service_by_group front calls m.ControllerDelete types spot r s = refl
service_by_group front calls m.CapabilityId types spot r s = refl
service_by_group front calls m.CapabilityAddress types spot r s = refl
service_by_group front calls m.CapabilityBorrow types spot r s = refl
service_by_group front calls m.CapabilityCheck types spot r s = refl
service_by_group front calls m.ResourceUuid types spot r s = refl
service_by_group front calls m.ResourceOwner types spot r s = refl
service_by_group front calls m.ContractAccount types spot r s = refl
service_by_group front calls m.Panic types spot r s = refl
service_by_group front calls m.Assert types spot r s = refl
service_by_group front calls m.Log types spot r s = refl
service_by_group front calls m.GetAccount types spot r s = refl
service_by_group front calls m.MetaType types spot r s = refl
