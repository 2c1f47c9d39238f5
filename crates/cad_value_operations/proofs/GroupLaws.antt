-- Built-in members are told by their groups.
use Rattle.std.proofs.Common.{◌≡◌, ◌-◌, ℕ, zero, suc, List, refl, ap, arith}
use Rattle.cad_evaluation.specs.Builtins.{by_array, function, member, paid_for}
use Rattle.cad_evaluation.specs.Callees.{Calls, Front}
use Rattle.cad_syntax.specs.Types.{PureType}
use Rattle.cad_types.specs.declared.builtin.Builtin.{Builtin}
use Rattle.cad_types.specs.declared.builtin.Builtin.TheVariants as m
use Rattle.cad_value_operations.specs.Code.Groups.{group, called}
use Rattle.cad_value_operations.specs.Code.Members.{by_group, by_called, call_member, read_by, spot_member}
use Rattle.cad_value_operations.specs.declared.groups.Called.{Called}
use Rattle.cad_value_operations.specs.declared.groups.Called.TheVariants as c
use Rattle.cad_value_operations.specs.declared.groups.Group.{Group}
use Rattle.cad_value_operations.specs.declared.groups.Group.TheVariants as g
use Rattle.cad_world.specs.Receivers.{Spot}
use Rattle.cad_world.specs.Rows.{NodeShape, plain, link, array, dictionary, composite, Row, Tree}
use Rattle.cad_world.specs.State.{Action, State}
use Rattle.cad_world.specs.Trees.{row_weight, tree_weight}

-- what is no array isn't searched
search_so : (n : ℕ) (shape : NodeShape) (k : Row) (f : PureType → Row → Action Tree) (s : State)
    → paid_for (tree_weight (record { optionals = n; shape = shape; parts = k }) - 1) (by_array n shape k f) s ≡ paid_for (row_weight k) (by_array n shape k f) s
search_so zero (array t) k f s = ap (λ (w : ℕ). paid_for w (f t k) s) (omega arith)
search_so zero (plain v) k f s = refl
search_so zero (link a l sees) k f s = refl
search_so zero (dictionary key t ks) k f s = refl
search_so zero (composite id i ns) k f s = refl
search_so (suc n) (array t) k f s = refl
search_so (suc n) (plain v) k f s = refl
search_so (suc n) (link a l sees) k f s = refl
search_so (suc n) (dictionary key t ks) k f s = refl
search_so (suc n) (composite id i ns) k f s = refl

pub member_by_group : (front : Front) (calls : Calls) (b : Builtin) (types : List PureType) (spot : Spot) (r : Row) (s : State) → member front calls b types spot r s ≡ by_group front calls b types spot r (group b) s
member_by_group front calls m.ArrayLength types spot r s = refl
member_by_group front calls m.ArrayContains types spot r s = search_so spot.tree.optionals spot.tree.shape spot.tree.parts _ s
member_by_group front calls m.ArrayFirstIndex types spot r s = search_so spot.tree.optionals spot.tree.shape spot.tree.parts _ s
member_by_group front calls m.ArrayConcat types spot r s = refl
member_by_group front calls m.ArraySlice types spot r s = refl
member_by_group front calls m.ArrayReverse types spot r s = refl
member_by_group front calls m.ArrayAppend types spot r s = refl
member_by_group front calls m.ArrayAppendAll types spot r s = refl
member_by_group front calls m.ArrayInsert types spot r s = refl
member_by_group front calls m.ArrayRemove types spot r s = refl
member_by_group front calls m.ArrayRemoveFirst types spot r s = refl
member_by_group front calls m.ArrayRemoveLast types spot r s = refl
member_by_group front calls m.DictionaryLength types spot r s = refl
member_by_group front calls m.DictionaryKeys types spot r s = refl
member_by_group front calls m.DictionaryValues types spot r s = refl
member_by_group front calls m.DictionaryContainsKey types spot r s = refl
member_by_group front calls m.DictionaryInsert types spot r s = refl
member_by_group front calls m.DictionaryRemove types spot r s = refl
member_by_group front calls m.StringLength types spot r s = refl
member_by_group front calls m.StringUtf8 types spot r s = refl
member_by_group front calls m.StringConcat types spot r s = refl
member_by_group front calls m.StringSlice types spot r s = refl
member_by_group front calls m.StringDecodeHex types spot r s = refl
member_by_group front calls m.StringEncodeHex types spot r s = refl
member_by_group front calls m.StringFromUtf8 types spot r s = refl
member_by_group front calls m.CharacterToString types spot r s = refl
member_by_group front calls m.NumberToString types spot r s = refl
member_by_group front calls (m.NumberConvert kind) types spot r s = refl
member_by_group front calls (m.NumberFromString kind) types spot r s = refl
member_by_group front calls (m.NumberMin kind) types spot r s = refl
member_by_group front calls (m.NumberMax kind) types spot r s = refl
member_by_group front calls m.NumberToBigEndianBytes types spot r s = refl
member_by_group front calls m.SaturatingAdd types spot r s = refl
member_by_group front calls m.SaturatingSubtract types spot r s = refl
member_by_group front calls m.SaturatingMultiply types spot r s = refl
member_by_group front calls m.SaturatingDivide types spot r s = refl
member_by_group front calls m.AddressToString types spot r s = refl
member_by_group front calls m.AddressToBytes types spot r s = refl
member_by_group front calls m.GetType types spot r s = refl
member_by_group front calls m.IsInstance types spot r s = refl
member_by_group front calls m.TypeIdentifier types spot r s = refl
member_by_group front calls m.EnumRawValue types spot r s = refl
member_by_group front calls m.EnumFromRawValue types spot r s = refl
member_by_group front calls m.AccountAddress types spot r s = refl
member_by_group front calls m.AccountStorage types spot r s = refl
member_by_group front calls m.AccountContracts types spot r s = refl
member_by_group front calls m.AccountCapabilities types spot r s = refl
member_by_group front calls m.StorageSave types spot r s = refl
member_by_group front calls m.StorageLoad types spot r s = refl
member_by_group front calls m.StorageCopy types spot r s = refl
member_by_group front calls m.StorageBorrow types spot r s = refl
member_by_group front calls m.StorageCheck types spot r s = refl
member_by_group front calls m.StorageType types spot r s = refl
member_by_group front calls m.ContractsAdd types spot r s = refl
member_by_group front calls m.ContractsUpdate types spot r s = refl
member_by_group front calls m.CapabilitiesGet types spot r s = refl
member_by_group front calls m.CapabilitiesBorrow types spot r s = refl
member_by_group front calls m.CapabilitiesExists types spot r s = refl
member_by_group front calls m.CapabilitiesPublish types spot r s = refl
member_by_group front calls m.CapabilitiesUnpublish types spot r s = refl
member_by_group front calls m.CapabilitiesStorage types spot r s = refl
member_by_group front calls m.StorageCapabilitiesIssue types spot r s = refl
member_by_group front calls m.StorageCapabilitiesGetController types spot r s = refl
member_by_group front calls m.ControllerCapabilityId types spot r s = refl
member_by_group front calls m.ControllerBorrowType types spot r s = refl
member_by_group front calls m.ControllerTag types spot r s = refl
member_by_group front calls m.ControllerSetTag types spot r s = refl
member_by_group front calls m.ControllerTarget types spot r s = refl
member_by_group front calls m.ControllerRetarget types spot r s = refl
member_by_group front calls m.ControllerDelete types spot r s = refl
member_by_group front calls m.CapabilityId types spot r s = refl
member_by_group front calls m.CapabilityAddress types spot r s = refl
member_by_group front calls m.CapabilityBorrow types spot r s = refl
member_by_group front calls m.CapabilityCheck types spot r s = refl
member_by_group front calls m.ResourceUuid types spot r s = refl
member_by_group front calls m.ResourceOwner types spot r s = refl
member_by_group front calls m.ContractAccount types spot r s = refl
member_by_group front calls m.Panic types spot r s = refl
member_by_group front calls m.Assert types spot r s = refl
member_by_group front calls m.Log types spot r s = refl
member_by_group front calls m.GetAccount types spot r s = refl
member_by_group front calls m.MetaType types spot r s = refl

pub function_by_call : (b : Builtin) (types : List PureType) (r : Row) (s : State) → function b types r s ≡ by_called types r (called b) s
function_by_call m.ArrayLength types r s = refl
function_by_call m.ArrayContains types r s = refl
function_by_call m.ArrayFirstIndex types r s = refl
function_by_call m.ArrayConcat types r s = refl
function_by_call m.ArraySlice types r s = refl
function_by_call m.ArrayReverse types r s = refl
function_by_call m.ArrayAppend types r s = refl
function_by_call m.ArrayAppendAll types r s = refl
function_by_call m.ArrayInsert types r s = refl
function_by_call m.ArrayRemove types r s = refl
function_by_call m.ArrayRemoveFirst types r s = refl
function_by_call m.ArrayRemoveLast types r s = refl
function_by_call m.DictionaryLength types r s = refl
function_by_call m.DictionaryKeys types r s = refl
function_by_call m.DictionaryValues types r s = refl
function_by_call m.DictionaryContainsKey types r s = refl
function_by_call m.DictionaryInsert types r s = refl
function_by_call m.DictionaryRemove types r s = refl
function_by_call m.StringLength types r s = refl
function_by_call m.StringUtf8 types r s = refl
function_by_call m.StringConcat types r s = refl
function_by_call m.StringSlice types r s = refl
function_by_call m.StringDecodeHex types r s = refl
function_by_call m.StringEncodeHex types r s = refl
function_by_call m.StringFromUtf8 types r s = refl
function_by_call m.CharacterToString types r s = refl
function_by_call m.NumberToString types r s = refl
function_by_call (m.NumberConvert kind) types r s = refl
function_by_call (m.NumberFromString kind) types r s = refl
function_by_call (m.NumberMin kind) types r s = refl
function_by_call (m.NumberMax kind) types r s = refl
function_by_call m.NumberToBigEndianBytes types r s = refl
function_by_call m.SaturatingAdd types r s = refl
function_by_call m.SaturatingSubtract types r s = refl
function_by_call m.SaturatingMultiply types r s = refl
function_by_call m.SaturatingDivide types r s = refl
function_by_call m.AddressToString types r s = refl
function_by_call m.AddressToBytes types r s = refl
function_by_call m.GetType types r s = refl
function_by_call m.IsInstance types r s = refl
function_by_call m.TypeIdentifier types r s = refl
function_by_call m.EnumRawValue types r s = refl
function_by_call m.EnumFromRawValue types r s = refl
function_by_call m.AccountAddress types r s = refl
function_by_call m.AccountStorage types r s = refl
function_by_call m.AccountContracts types r s = refl
function_by_call m.AccountCapabilities types r s = refl
function_by_call m.StorageSave types r s = refl
function_by_call m.StorageLoad types r s = refl
function_by_call m.StorageCopy types r s = refl
function_by_call m.StorageBorrow types r s = refl
function_by_call m.StorageCheck types r s = refl
function_by_call m.StorageType types r s = refl
function_by_call m.ContractsAdd types r s = refl
function_by_call m.ContractsUpdate types r s = refl
function_by_call m.CapabilitiesGet types r s = refl
function_by_call m.CapabilitiesBorrow types r s = refl
function_by_call m.CapabilitiesExists types r s = refl
function_by_call m.CapabilitiesPublish types r s = refl
function_by_call m.CapabilitiesUnpublish types r s = refl
function_by_call m.CapabilitiesStorage types r s = refl
function_by_call m.StorageCapabilitiesIssue types r s = refl
function_by_call m.StorageCapabilitiesGetController types r s = refl
function_by_call m.ControllerCapabilityId types r s = refl
function_by_call m.ControllerBorrowType types r s = refl
function_by_call m.ControllerTag types r s = refl
function_by_call m.ControllerSetTag types r s = refl
function_by_call m.ControllerTarget types r s = refl
function_by_call m.ControllerRetarget types r s = refl
function_by_call m.ControllerDelete types r s = refl
function_by_call m.CapabilityId types r s = refl
function_by_call m.CapabilityAddress types r s = refl
function_by_call m.CapabilityBorrow types r s = refl
function_by_call m.CapabilityCheck types r s = refl
function_by_call m.ResourceUuid types r s = refl
function_by_call m.ResourceOwner types r s = refl
function_by_call m.ContractAccount types r s = refl
function_by_call m.Panic types r s = refl
function_by_call m.Assert types r s = refl
function_by_call m.Log types r s = refl
function_by_call m.GetAccount types r s = refl
function_by_call m.MetaType types r s = refl

pub read_group : (front : Front) (calls : Calls) (b : Builtin) (types : List PureType) (spot : Spot) (r : Row) (x : Group) (s : State)
    → ¬ (x ≡ g.Service) → ¬ (x ≡ g.Search) → ¬ (x ≡ g.Container) → by_group front calls b types spot r x s ≡ read_by spot r x s
read_group front calls b types spot r g.Nothing s service search container = refl
read_group front calls b types spot r g.Service s service search container = absurd (service refl)
read_group front calls b types spot r g.Identity s service search container = refl
read_group front calls b types spot r g.Owner s service search container = refl
read_group front calls b types spot r g.Account s service search container = refl
read_group front calls b types spot r g.Search s service search container = absurd (search refl)
read_group front calls b types spot r g.Container s service search container = absurd (container refl)
read_group front calls b types spot r (g.Text m) s service search container = refl
read_group front calls b types spot r g.Character s service search container = refl
read_group front calls b types spot r (g.Number m) s service search container = refl
read_group front calls b types spot r (g.Address m) s service search container = refl
read_group front calls b types spot r g.Identifier s service search container = refl
read_group front calls b types spot r g.OwnType s service search container = refl
read_group front calls b types spot r g.Instance s service search container = refl
read_group front calls b types spot r g.RawValue s service search container = refl

pub paid_group : (spot : Spot) (r : Row) (x : Group) (s : State)
    → ¬ (x ≡ g.Identity) → ¬ (x ≡ g.Owner) → ¬ (x ≡ g.Account) → read_by spot r x s ≡ paid_for 0 (spot_member x spot r) s
paid_group spot r g.Nothing s identity owner account = refl
paid_group spot r g.Service s identity owner account = refl
paid_group spot r g.Identity s identity owner account = absurd (identity refl)
paid_group spot r g.Owner s identity owner account = absurd (owner refl)
paid_group spot r g.Account s identity owner account = absurd (account refl)
paid_group spot r g.Search s identity owner account = refl
paid_group spot r g.Container s identity owner account = refl
paid_group spot r (g.Text m) s identity owner account = refl
paid_group spot r g.Character s identity owner account = refl
paid_group spot r (g.Number m) s identity owner account = refl
paid_group spot r (g.Address m) s identity owner account = refl
paid_group spot r g.Identifier s identity owner account = refl
paid_group spot r g.OwnType s identity owner account = refl
paid_group spot r g.Instance s identity owner account = refl
paid_group spot r g.RawValue s identity owner account = refl

pub paid_call : (types : List PureType) (r : Row) (x : Called) (s : State) → ¬ (x ≡ c.Panic) → ¬ (x ≡ c.Assert) → ¬ (x ≡ c.Log) → ¬ (x ≡ c.Account) → by_called types r x s ≡ paid_for 0 (call_member x types r) s
paid_call types r c.Panic s panic assert log account = absurd (panic refl)
paid_call types r c.Assert s panic assert log account = absurd (assert refl)
paid_call types r c.Log s panic assert log account = absurd (log refl)
paid_call types r c.Account s panic assert log account = absurd (account refl)
paid_call types r c.Encoded s panic assert log account = refl
paid_call types r c.Read s panic assert log account = refl
paid_call types r (c.Converted kind) s panic assert log account = refl
paid_call types r (c.Parsed kind) s panic assert log account = refl
paid_call types r (c.Least kind) s panic assert log account = refl
paid_call types r (c.Greatest kind) s panic assert log account = refl
paid_call types r c.Case s panic assert log account = refl
paid_call types r c.Nothing s panic assert log account = refl
