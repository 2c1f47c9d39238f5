-- The built-in members of numbers, texts, containers, types and enums, of any value, of resources and contracts, and the
-- built-in functions.
use Rattle.std.specs.Prelude.{ℕ, zero, suc, ◌+◌, ◌-◌, Bool, true, false, not, ◌&&◌, List, [], ◌∷◌, length, Option, Some, None, option_map, if◌then◌else◌}
use Rattle.cad_syntax.specs.Types.{PureType, declared}
use Rattle.cad_syntax.specs.declared.address.Address.{Address}
use Rattle.cad_num.specs.declared.saturation.Op.TheVariants.{Add, Sub, Mul, Div}
use Rattle.cad_types.specs.declared.builtin.Builtin.{Builtin}
use Rattle.cad_types.specs.declared.builtin.Builtin.TheVariants as m
use Rattle.cad_declarations.specs.Builtins.{own_account, needed}
use Rattle.cad_values.specs.Values as v
use Rattle.cad_world.specs.Rows.{NodeShape, Row, Tree, found}
use Rattle.cad_world.specs.Rows as rows
use Rattle.cad_world.specs.State.{State, Account, Contract, Action, ◌>>=◌, ◌>>◌, give, stuck, fail, spend, by_truth, choose, with_some}
use Rattle.cad_world.specs.Trees.{tree_weight}
use Rattle.cad_world.specs.Receivers.{Spot}
use Rattle.cad_evaluation.specs.Access.{has_right}
use Rattle.cad_evaluation.specs.Accounts.{account_reference, any_account}
use Rattle.cad_evaluation.specs.Arguments.{argument, with_argument, with_arguments}
use Rattle.cad_evaluation.specs.Callees.{Calls, Front}
use Rattle.cad_evaluation.specs.Numbers.{truth_of, on_numbers, saturating, converted, greatest_tree, least_tree}
use Rattle.cad_evaluation.specs.Reading.{copied, read_uuid, composite_id}
use Rattle.cad_evaluation.specs.TypeTexts.{identifier}
use Rattle.cad_evaluation.specs.Texts.{in_tree, text_in, character_in_value, address_in_value, text_tree, given_int, text_length, text_joined, text_slice, text_decoded, text_encoded, text_from_bytes, number_text, number_read, number_bytes, address_bytes, address_told}
use Rattle.cad_evaluation.specs.Texts as texts
use Rattle.cad_evaluation.specs.Containers.{void_tree, array_contains, array_first_index, array_concat, array_slice, array_reverse, array_append, array_append_all, array_insert, array_remove, array_remove_first, array_remove_last, dictionary_keys, contains_key, dictionary_insert, dictionary_remove, array_copy}
use Rattle.cad_evaluation.specs.Casts.{type_told, instance_told, type_in_value}
use Rattle.cad_evaluation.specs.Making.{case_from}
use Rattle.cad_evaluation.specs.Services.{service}

-- ---- what the receiver is

abbrev pub by_array : ℕ → NodeShape → Row → (PureType → Row → Action Tree) → Action Tree
by_array zero (rows.array type) r f = f type r
by_array n shape r f = stuck

abbrev pub on_array : Spot → (PureType → Row → Action Tree) → Action Tree
on_array spot f = by_array spot.tree.optionals spot.tree.shape spot.tree.parts f

abbrev pub on_array_at : Spot → (ℕ → PureType → Row → Action Tree) → Action Tree
on_array_at spot f = with_some spot.label (λ l. on_array spot (f l))

abbrev pub by_dictionary : ℕ → NodeShape → Row → (PureType → PureType → List v.PureValue → Row → Action Tree) → Action Tree
by_dictionary zero (rows.dictionary key value ks) r f = f key value ks r
by_dictionary n shape r f = stuck

abbrev pub on_dictionary : Spot → (PureType → PureType → List v.PureValue → Row → Action Tree) → Action Tree
on_dictionary spot f = by_dictionary spot.tree.optionals spot.tree.shape spot.tree.parts f

abbrev pub on_dictionary_at : Spot → (ℕ → PureType → PureType → List v.PureValue → Row → Action Tree) → Action Tree
on_dictionary_at spot f = with_some spot.label (λ l. on_dictionary spot (f l))

abbrev pub on_text : Spot → (List ℕ → Action Tree) → Action Tree
on_text spot f = with_some (text_in spot.tree) f

abbrev pub on_address : Spot → (Address → Action Tree) → Action Tree
on_address spot f = with_some (in_tree address_in_value spot.tree) f

-- ---- members

-- `rawValue`: the one field of a case
abbrev pub raw_value : Spot → Action Tree
raw_value spot = with_some (composite_id spot.tree) (λ id. with_some (argument 0 spot.tree.parts) copied)

-- the units of a value but the first
abbrev pub cost : Option Tree → ℕ
cost None = 0
cost (Some t) = tree_weight t - 1

-- what a member of a number, text, container, type, enum or any value gives
abbrev pub plain_member : Builtin → Spot → Row → Action Tree
plain_member m.ArrayLength spot r = on_array spot (λ type parts. given_int (rows.count_places parts))
plain_member m.ArrayContains spot r = on_array spot (λ type parts. with_argument r (array_contains parts))
plain_member m.ArrayFirstIndex spot r = on_array spot (λ type parts. with_argument r (array_first_index parts))
plain_member m.ArrayConcat spot r = on_array spot (λ type parts. with_argument r (array_concat type parts))
plain_member m.ArraySlice spot r = on_array spot (λ type parts. with_arguments r (array_slice type parts))
plain_member m.ArrayReverse spot r = on_array spot array_reverse
plain_member m.ArrayAppend spot r = on_array_at spot (λ l type parts. with_argument r (array_append l type parts))
plain_member m.ArrayAppendAll spot r = on_array_at spot (λ l type parts. with_argument r (array_append_all l type parts))
plain_member m.ArrayInsert spot r = on_array_at spot (λ l type parts. with_arguments r (array_insert l type parts))
plain_member m.ArrayRemove spot r = on_array_at spot (λ l type parts. with_argument r (array_remove l type parts))
plain_member m.ArrayRemoveFirst spot r = on_array_at spot array_remove_first
plain_member m.ArrayRemoveLast spot r = on_array_at spot array_remove_last
plain_member m.DictionaryLength spot r = on_dictionary spot (λ key value ks parts. given_int (length ks))
plain_member m.DictionaryKeys spot r = on_dictionary spot (λ key value ks parts. dictionary_keys key ks)
plain_member m.DictionaryValues spot r = on_dictionary spot (λ key value ks parts. array_copy value parts)
plain_member m.DictionaryContainsKey spot r = on_dictionary spot (λ key value ks parts. with_argument r (contains_key ks))
plain_member m.DictionaryInsert spot r = on_dictionary_at spot (λ l key value ks parts. with_arguments r (dictionary_insert l key value ks parts))
plain_member m.DictionaryRemove spot r = on_dictionary_at spot (λ l key value ks parts. with_argument r (dictionary_remove l key value ks parts))
plain_member m.StringLength spot r = on_text spot text_length
plain_member m.StringUtf8 spot r = on_text spot texts.bytes_tree
plain_member m.StringConcat spot r = on_text spot (λ text. with_argument r (text_joined text))
plain_member m.StringSlice spot r = on_text spot (λ text. with_arguments r (text_slice text))
plain_member m.StringDecodeHex spot r = on_text spot text_decoded
plain_member m.CharacterToString spot r = with_some (in_tree character_in_value spot.tree) (λ text. give (text_tree text))
plain_member m.NumberToString spot r = number_text spot.tree
plain_member m.NumberToBigEndianBytes spot r = number_bytes spot.tree
plain_member m.SaturatingAdd spot r = with_argument r (on_numbers (saturating Add) spot.tree)
plain_member m.SaturatingSubtract spot r = with_argument r (on_numbers (saturating Sub) spot.tree)
plain_member m.SaturatingMultiply spot r = with_argument r (on_numbers (saturating Mul) spot.tree)
plain_member m.SaturatingDivide spot r = with_argument r (on_numbers (saturating Div) spot.tree)
plain_member m.AddressToString spot r = on_address spot address_told
plain_member m.AddressToBytes spot r = on_address spot address_bytes
plain_member m.GetType spot r = type_told spot
plain_member m.IsInstance spot r = with_argument r (instance_told spot)
plain_member m.TypeIdentifier spot r = with_some (in_tree type_in_value spot.tree) (λ type. give (text_tree (identifier type)))
plain_member m.EnumRawValue spot r = raw_value spot
plain_member _ spot r = stuck

-- members of types
abbrev pub type_member : Builtin → List PureType → Row → Action Tree
type_member m.StringEncodeHex types r = with_argument r text_encoded
type_member m.StringFromUtf8 types r = with_argument r text_from_bytes
type_member (m.NumberConvert kind) types r = with_argument r (converted kind)
type_member (m.NumberFromString kind) types r = with_argument r (number_read kind)
type_member (m.NumberMin kind) types r = least_tree kind
type_member (m.NumberMax kind) types r = greatest_tree kind
type_member m.EnumFromRawValue (declared id ∷ []) r = with_argument r (case_from id)
type_member _ types r = stuck

-- a result, with a unit for each part of it but the first, and as many more
abbrev pub paid_for : ℕ → Action Tree → Action Tree
paid_for n p = p >>= (λ t. spend ((tree_weight t - 1) + n) >> give t)

-- what the search for an element costs beside its result
abbrev pub search_cost : Builtin → Spot → ℕ
search_cost m.ArrayContains spot = tree_weight spot.tree - 1
search_cost m.ArrayFirstIndex spot = tree_weight spot.tree - 1
search_cost _ spot = 0

-- ---- accounts of resources and contracts

abbrev pub stands_in : ℕ → Row → Bool
stands_in l r = is_some_found (found l r)
  where
    is_some_found : {A : Type 0} → Option A → Bool
    is_some_found None = false
    is_some_found (Some a) = true

abbrev pub home_in_accounts : ℕ → ℕ → List Account → Option Address
home_in_accounts l n [] = None
home_in_accounts l n (a ∷ all) = if stands_in l a.stored then Some (record { 0 = n }) else home_in_accounts l (suc n) all

-- in the value of a contract whose initializer doesn't run any more
abbrev pub home_in_contracts : ℕ → List Contract → Option Address
home_in_contracts l [] = None
home_in_contracts l (c ∷ all) = if not c.is_running && stands_in l c.value then Some c.id.address else home_in_contracts l all

abbrev pub home : State → ℕ → Option Address
home s l = either (home_in_accounts l 1 s.accounts) (home_in_contracts l s.contracts)
  where
    either : Option Address → Option Address → Option Address
    either (Some a) other = Some a
    either None other = other

-- `owner` of a resource
abbrev pub read_owner : Spot → Action Tree
read_owner spot = with_some spot.label (λ l s. give (texts.optional_tree (option_map any_account (home s l))) s)

-- `account` of a contract
abbrev pub read_account : Spot → Action Tree
read_account spot = with_some (composite_id spot.tree) (λ id. give (account_reference own_account id.address))

-- ---- built-in functions

abbrev pub asserted : Row → Action Tree
asserted r = with_argument r (λ t. by_truth (truth_of t) (give void_tree) (fail 110))

abbrev pub account_got : Row → Action Tree
account_got r = with_argument r (λ t. with_some (in_tree address_in_value t) (λ a. give (any_account a)))

-- a built-in function, or a member of a type
abbrev pub function : Builtin → List PureType → Row → Action Tree
function m.Panic types r = fail 109
function m.Assert types r = asserted r
function m.Log types r = give void_tree
function m.GetAccount types r = account_got r
function member types r = paid_for 0 (type_member member types r)

-- ---- all members

-- a reference grants what the member needs; an owner has all
abbrev pub may_use : Builtin → Spot → Bool
may_use member spot = has_right spot.rights (needed member)

abbrev pub is_service : Builtin → Bool
is_service m.AccountAddress = true
is_service m.AccountStorage = true
is_service m.AccountContracts = true
is_service m.AccountCapabilities = true
is_service m.StorageSave = true
is_service m.StorageLoad = true
is_service m.StorageCopy = true
is_service m.StorageBorrow = true
is_service m.StorageCheck = true
is_service m.StorageType = true
is_service m.ContractsAdd = true
is_service m.ContractsUpdate = true
is_service m.CapabilitiesGet = true
is_service m.CapabilitiesBorrow = true
is_service m.CapabilitiesExists = true
is_service m.CapabilitiesPublish = true
is_service m.CapabilitiesUnpublish = true
is_service m.CapabilitiesStorage = true
is_service m.StorageCapabilitiesIssue = true
is_service m.StorageCapabilitiesGetController = true
is_service m.ControllerCapabilityId = true
is_service m.ControllerBorrowType = true
is_service m.ControllerTag = true
is_service m.ControllerSetTag = true
is_service m.ControllerTarget = true
is_service m.ControllerRetarget = true
is_service m.ControllerDelete = true
is_service m.CapabilityId = true
is_service m.CapabilityAddress = true
is_service m.CapabilityBorrow = true
is_service m.CapabilityCheck = true
is_service _ = false

abbrev pub member_of_value : Builtin → Spot → Row → Action Tree
member_of_value m.ResourceUuid spot r = read_uuid spot
member_of_value m.ResourceOwner spot r = read_owner spot
member_of_value m.ContractAccount spot r = read_account spot
member_of_value member spot r = paid_for (search_cost member spot) (plain_member member spot r)

-- a built-in member on what the receiver is
abbrev pub member : Front → Calls → Builtin → List PureType → Spot → Row → Action Tree
member front calls b types spot r = choose (is_service b) (service front calls b types spot r) (member_of_value b spot r)
